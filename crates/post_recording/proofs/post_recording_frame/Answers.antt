use mathlib.Core.Path.{ap, ◌∙◌}
use lib.IntN.{pos}
use mir.Syntax.{w32}
use Rattle.word.proofs.Words.{got}
use Rattle.sigproc.specs.Place.{put_at}
use Rattle.refusal.specs.Refusals.{Judged, code_of, if_accepted}
use Rattle.recording.specs.Frames.{rate_in, count_in}
use Rattle.post_recording.specs.Reading.{frame_of, coefs_of, pulses_of, frame_at, frame_call}
use Rattle.post_recording.proofs.post_recording_frame.Goals as goal

pub returns : goal.returns
unfolding frame_call
returns c =
    let a = c.args in
    let b = a.bytes.now in
    let x = frame_at b a.number in
    let e = c.frame_into.ensures in
    let n = got w32 c.code.type_inv c.code.ensures ∙ ap (λ (j : Judged). pos (code_of j)) e.0 in
    let f = e.1 ∙ ap (λ (j : Judged). if_accepted j (put_at a.frame.now 0 (frame_of (rate_in b) (count_in b) x)) a.frame.now) e.0 in
    let k = e.2 ∙ ap (λ (j : Judged). if_accepted j (put_at a.coefs.now 0 (coefs_of x)) a.coefs.now) e.0 in
    let p = e.3 ∙ ap (λ (j : Judged). if_accepted j (put_at a.pulses.now 0 (pulses_of x)) a.pulses.now) e.0 in
    λ i. record { answer = n i; frame = f i; coefs = k i; pulses = p i }
