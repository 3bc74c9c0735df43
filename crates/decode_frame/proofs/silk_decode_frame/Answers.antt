use mathlib.Core.Path.{sym, ◌∙◌}
use mir.Facts.{to_z-of_z}
use Rattle.decode_frame.specs.WholeFrame.{whole_frame}
use Rattle.decode_frame.specs.Call.{frame_call}
use Rattle.decode_frame.specs.Answer.{frame_refusal, frame_answer, frame_output}
use Rattle.decode_frame.proofs.silk_decode_frame.Goals as goal

pub returns-in_default : goal.returns-in_default
unfolding frame_answer frame_output frame_refusal whole_frame
returns-in_default c =
    let e = c.lost_frame.ensures in
    let a = c.args in
    let f = c.ranges in
    let khz = to_z-of_z f.khz in
    let nb = to_z-of_z f.nb_subfr in
    let was = sym c.in_default.is in (
      e.0 ∙ λ i. frame_answer a.s (frame_call (khz i) (nb i) (was i) a.c a.rows a.lines a.pulses.now a.xq.now),
      e.1 ∙ λ i. frame_output a.s (frame_call (khz i) (nb i) (was i) a.c a.rows a.lines a.pulses.now a.xq.now),
    )

pub returns : goal.returns
returns c =
    let e = c.received_frame.ensures in
    let a = c.args in
    let f = c.ranges in
    let khz = to_z-of_z f.khz in
    let nb = to_z-of_z f.nb_subfr in
    let was = sym c.in-Received.is in (
      e.0 ∙ λ i. frame_answer a.s (frame_call (khz i) (nb i) (was i) a.c a.rows a.lines a.pulses.now a.xq.now),
      e.1 ∙ λ i. frame_output a.s (frame_call (khz i) (nb i) (was i) a.c a.rows a.lines a.pulses.now a.xq.now),
    )
