use mathlib.Core.Path.{◌∙◌}
use mir.Facts.{to_z-of_z}
use mir.Syntax.{w16}
use Rattle.le.specs.Bytes.{packed}
use Rattle.decode_frame.specs.Call.{frame_call}
use Rattle.decode_frame.specs.Answer.{frame_answer, frame_output}
use Rattle.play.specs.Play.{silent, answer, sound_of}
use Rattle.play.proofs.played.Goals as goal

pub returns : goal.returns
unfolding answer sound_of
returns c =
    let s = c.args.s in
    let h = to_z-of_z c.ranges.rate in
    let n = to_z-of_z c.ranges.subframes in
    let f = c.frame-frame.ensures in
    let k = c.control-c.ensures in
    let r = c.rows-rows.ensures in
    let l = c.lines-lines.ensures in
    let p = c.pulses-pulses.ensures in
    let a = c.silk_decode_frame-answer.ensures.0 ∙ λ i. frame_answer s (frame_call (h i) (n i) (f i) (k i) (r i) (l i) (p i) silent) in
    let o = c.silk_decode_frame-answer.ensures.1 ∙ λ i. frame_output s (frame_call (h i) (n i) (f i) (k i) (r i) (l i) (p i) silent) in
    let e = c.samples_bytes-bytes.ensures ∙ λ i. packed w16 (o i) 320 in
    λ i. record { answer = a i; bytes = e i }
