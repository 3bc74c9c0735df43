use mathlib.Core.Path.{ap, ◌∙◌}
use lib.IntN.{pos}
use mir.Syntax.{w32}
use Rattle.word.proofs.Words.{got}
use Rattle.refusal.specs.Refusals.{Judged, code_of, if_accepted}
use Rattle.recorder.specs.Writing.{appended}
use Rattle.post_recording.specs.Writing.{lent, append_call}
use Rattle.post_recording.proofs.post_recording_append.Goals as goal

pub returns : goal.returns
unfolding append_call
returns c =
    let a = c.args in
    let e = c.append.ensures in
    let n = got w32 c.code.type_inv c.code.ensures ∙ ap (λ (j : Judged). pos (code_of j)) e.0 in
    let h = e.1 ∙ ap (λ (j : Judged). if_accepted j (appended a.bytes.now a.frames (lent a.frame.now a.coefs.now a.pulses.now)) a.bytes.now) e.0 in
    λ i. record { answer = n i; bytes = h i }
