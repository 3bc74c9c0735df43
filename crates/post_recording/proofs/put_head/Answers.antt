use mathlib.Core.Path.{refl, ◌∙◌}
use mathlib.Core.List.{[], ◌∷◌, ◌++◌}
use native.Mathlib.Omega.{arith}
use borrow.Author.Rules.{rules}
use mir.Syntax.{w32}
use mir.Facts.{to_z_pos}
use Rattle.word.proofs.Words.{kept}
use Rattle.sigproc.specs.Place.{put_at}
use Rattle.layout.proofs.Pieces.{begun, next}
use Rattle.post_recording.specs.Reading.{head_of}
use Rattle.post_recording.proofs.put_head.Goals as goal

pub returns : goal.returns
unfolding head_of
returns c =
    let r = c.args.r.now in
    let f1 = begun _ 3 refl c.copy_at.ensures in
    let f2 = next c.record_numbers.result 59 62 f1 (search rules) refl c.copy_at-2.ensures in
    let k = kept w32 r.rate (search rules) in
    let n = kept w32 r.subframes (search rules) in
    let m = to_z_pos w32 {n = r.frames} (omega (arith, c.requires.0)) in
    let p = c.record_numbers.ensures in
    f2.stored ∙ λ i. put_at c.args.head.now 0 ((k i ∷ n i ∷ m i ∷ []) ++ p i)
