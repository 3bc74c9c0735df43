use mathlib.Core.Path.{refl, ◌∙◌}
use mathlib.Core.List.{[], ◌∷◌, ◌++◌}
use borrow.Author.Rules.{rules}
use mir.Syntax.{w32}
use mir.Facts.{to_z-of_z}
use Rattle.word.proofs.Words.{kept}
use Rattle.sigproc.specs.Place.{put_at}
use Rattle.layout.proofs.Pieces.{begun, next}
use Rattle.numbers.specs.Numbers.{small_numbers, frame_numbers}
use Rattle.numbers.proofs.put_frame.Goals as goal

pub returns : goal.returns
unfolding frame_numbers
returns c =
    let a = c.args in
    let rate = to_z-of_z c.ranges.rate in
    let subframes = to_z-of_z c.ranges.subframes in
    let e = c.small_numbers.ensures ∙ λ i. small_numbers a.received (rate i) (subframes i) a.q in
    let t = kept w32 a.c.ltp_scale_q14 (search rules) in
    let f1 = begun c.small_numbers.result 7 (search rules) c.copy_at.ensures in
    let f2 = next a.c.pitch_l 4 11 f1 (search rules) refl c.copy_at-2.ensures in
    let f3 = next a.c.gains_q16 4 15 f2 (search rules) refl c.copy_at-3.ensures in
    let f4 = next _ 1 16 f3 refl refl c.copy_at-4.ensures in
    f4.stored ∙ λ i. put_at a.frame.now 0 (e i ++ a.c.pitch_l ++ a.c.gains_q16 ++ (t i ∷ []))
