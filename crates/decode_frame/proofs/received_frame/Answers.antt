use mathlib.Core.Path.{sym, ap, ◌∙◌}
use lib.ListN.{length}
use mir.Facts.{to_z-of_z}
use Rattle.refusal.specs.First.{first_of}
use Rattle.refusal.specs.Refusals.{code_of}
use Rattle.refusal.proofs.Clear.{at_err}
use Rattle.decoder.specs.declared.Frame.TheVariants.{Received}
use Rattle.judge.specs.Rows.{received_rows}
use Rattle.decode_frame.specs.Call.{frame_call}
use Rattle.decode_frame.specs.Answer.{frame_refusal, frame_answer, frame_output}
use Rattle.decode_frame.proofs.Answers.{refused-answer}
use Rattle.decode_frame.proofs.received_frame.Goals as goal

pub returns-in_err-received : goal.returns-in_err-received
unfolding frame_refusal
returns-in_err-received c =
    let a = c.args in
    let f = c.ranges in
    refused-answer a.s (frame_call a.khz a.nb_subfr (Received a.q) a.c a.rows a.lines a.pulses.now a.xq.now) _
    (c.in_err-received.ensures ∙ λ i. first_of (received_rows (to_z-of_z f.khz i) (to_z-of_z f.nb_subfr i) a.s a.q a.c a.lines (length a.pulses.now) (length a.xq.now)))
    (at_err _ _ c.from_residual.ensures.1)

pub play_received-requires : goal.play_received-requires
unfolding frame_refusal
play_received-requires c = sym (ap code_of c.in_ok-received.ensures)

pub returns : goal.returns
returns c =
    let a = c.args in
    let khz = to_z-of_z c.ranges.khz in
    let nb = to_z-of_z c.ranges.nb_subfr in
    let e = c.play_received.ensures in (
      e.0 ∙ λ i. frame_answer a.s (frame_call (khz i) (nb i) (Received a.q) a.c a.rows a.lines a.pulses.now a.xq.now),
      e.1 ∙ λ i. frame_output a.s (frame_call (khz i) (nb i) (Received a.q) a.c a.rows a.lines a.pulses.now a.xq.now),
    )
