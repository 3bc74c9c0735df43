use mathlib.Core.Path.{◌≡◌, refl, ap, ◌∙◌}
use mathlib.Core.List.{[], ◌∷◌, ◌++◌}
use lib.ListN.{length}
use mir.Syntax.{w32}
use Rattle.word.proofs.Words.{kept}
use Rattle.sigproc.specs.Place.{put_at}
use Rattle.layout.specs.Layout.{numbers, last_numbers, state_words}
use Rattle.layout.proofs.Pieces.{begun, next}
use Rattle.layout.proofs.put_words.Goals.{After-last_numbers-last, After-numbers-numbers}
use Rattle.layout.proofs.put_words.Goals as goal

twenty : (c : After-numbers-numbers) → length c.numbers-numbers.result ≡ 20
unfolding numbers
twenty c = ap length c.numbers-numbers.ensures

five : (c : After-last_numbers-last) → length c.last_numbers-last.result ≡ 5
unfolding last_numbers
five c = ap length c.last_numbers-last.ensures

pub returns : goal.returns
unfolding state_words
returns c =
    let a = c.args in
    let s = a.s.now in
    let h = s.s_cng in
    let l = c.told-s in
    let f1 = begun _ 1 refl c.copy_at.ensures in
    let f2 = next s.exc_q14 320 321 f1 l.0 refl c.copy_at-2.ensures in
    let f3 = next s.s_lpc_q14_buf 16 337 f2 l.1 refl c.copy_at-3.ensures in
    let f4 = next c.numbers-numbers.result 20 357 f3 (twenty (goal.at.returns c).After-numbers-numbers) refl c.copy_at-4.ensures in
    let f5 = next h.cng_exc_buf_q14 320 677 f4 c.copy_at-arg-8-1.given refl c.copy_at-5.ensures in
    let f6 = next h.cng_synth_state 16 693 f5 c.copy_at-arg-10-1.given refl c.copy_at-6.ensures in
    let f7 = next c.last_numbers-last.result 5 698 f6 (five (goal.at.returns c).After-last_numbers-last) refl c.copy_at-7.ensures in
    f7.stored
    ∙ λ i.
    put_at a.words.now 0
    ((kept w32 s.prev_gain_q16 c.gain-1.given i ∷ []) ++ s.exc_q14 ++ s.s_lpc_q14_buf ++ c.numbers-numbers.ensures i ++ h.cng_exc_buf_q14 ++ h.cng_synth_state
    ++ c.last_numbers-last.ensures i)
