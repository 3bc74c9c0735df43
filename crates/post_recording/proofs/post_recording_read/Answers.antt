use mathlib.Core.Path.{ap, ◌∙◌}
use lib.IntN.{pos}
use mir.Syntax.{w32}
use Rattle.word.proofs.Words.{got}
use Rattle.sigproc.specs.Place.{put_at}
use Rattle.refusal.specs.Refusals.{Judged, code_of, if_accepted}
use Rattle.post_recording.specs.Reading.{head_numbers, read_call}
use Rattle.post_recording.proofs.post_recording_read.Goals as goal

pub returns : goal.returns
unfolding read_call
returns c =
    let a = c.args in
    let j = c.read_into.ensures.0 in
    let n = got w32 c.code.type_inv c.code.ensures ∙ ap (λ (x : Judged). pos (code_of x)) j in
    let h = c.read_into.ensures.1 ∙ ap (λ (x : Judged). if_accepted x (put_at a.head.now 0 (head_numbers a.bytes.now)) a.head.now) j in
    λ i. record { answer = n i; head = h i }
