use mathlib.Core.Path.{◌≡◌}
use native.Mathlib.Omega.{arith}
use mathlib.Core.List.{[]}
use lib.ListN.{length, get_or}
use mir.Syntax.{w16, w32}
use Rattle.word.proofs.Words.{kept}
use Rattle.le.proofs.Packing.{packed_all}
use Rattle.record.proofs.Parts.{put_whole}
use borrow.Author.Rules.{rules}
use Rattle.record.proofs.put_received.Goals as goal

pub returns : goal.returns
returns c =
    let a = c.args in
    let l : length a.c.pitch_l ≡ 4 = search rules in
    let g : length a.c.gains_q16 ≡ 4 = search rules in
    let t : length a.c.ltp_coef_q14 ≡ 20 = search rules in
    let u : length (get_or a.rows 0 []) ≡ 16 = search rules in
    let v : length (get_or a.rows 1 []) ≡ 16 = search rules in
    let n : length a.lines ≡ 16 = search rules in
    rw (c.put_words-7.ensures, c.put_words-6.ensures, c.put.ensures, c.put_words-5.ensures, c.put_words-4.ensures, c.put_words-3.ensures, c.put_words-2.ensures, c.put_words.ensures, c.put_small.ensures)
    (rw (kept w32 a.c.ltp_scale_q14 (search rules), packed_all w32 a.c.pitch_l 4 l, packed_all w32 a.c.gains_q16 4 g, packed_all w16 (get_or a.rows 0 []) 16 u, packed_all w16 (get_or a.rows 1 []) 16 v, packed_all w16 a.c.ltp_coef_q14 20 t, packed_all w16 a.lines 16 n, packed_all w16 a.pulses.now 320 c.requires.1)
    (put_whole a.to.now a.at a.q a.c a.rows a.lines a.pulses.now (omega arith)))
