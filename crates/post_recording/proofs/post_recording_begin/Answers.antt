use mathlib.Core.Path.{◌∙◌}
use lib.IntN.{pos}
use mir.Syntax.{w32}
use mir.Facts.{to_z-of_z}
use Rattle.word.proofs.Words.{got}
use Rattle.refusal.specs.Refusals.{code_of}
use Rattle.recorder.specs.Writing.{begin_of}
use Rattle.post_recording.specs.Writing.{begin_call}
use Rattle.post_recording.proofs.post_recording_begin.Goals as goal

pub returns : goal.returns
unfolding begin_call begin_of
returns c =
    let a = c.args in
    let p = c.begin.ensures ∙ λ i. begin_of (to_z-of_z c.ranges.rate i) (to_z-of_z c.ranges.subframes i) a.bytes.now in
    let n = got w32 c.code.type_inv c.code.ensures ∙ λ i. pos (code_of (p i).judged) in
    λ i. record { answer = n i; bytes = (p i).bytes }
