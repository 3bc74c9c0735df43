use mathlib.Core.Path.{sym, ap, ◌∙◌}
use mathlib.Core.List.{[]}
use lib.ListN.{length}
use mir.Facts.{to_z-of_z}
use Rattle.refusal.specs.First.{first_of}
use Rattle.refusal.specs.Refusals.{code_of}
use Rattle.refusal.proofs.Clear.{at_err}
use Rattle.decoder.specs.declared.Frame.TheVariants.{Lost}
use Rattle.judge.specs.Rows.{lost_rows}
use Rattle.decode_frame.specs.Call.{frame_call}
use Rattle.decode_frame.specs.Answer.{frame_refusal, frame_answer, frame_output}
use Rattle.decode_frame.proofs.Answers.{refused-answer}
use Rattle.decode_frame.proofs.lost_frame.Goals as goal

pub returns-in_err-lost : goal.returns-in_err-lost
unfolding frame_refusal
returns-in_err-lost c =
    let a = c.args in
    let f = c.ranges in
    refused-answer a.s (frame_call a.khz a.nb_subfr Lost a.c [] [] [] a.xq.now) _
    (c.in_err-lost.ensures ∙ λ i. first_of (lost_rows (to_z-of_z f.khz i) (to_z-of_z f.nb_subfr i) a.s (length a.xq.now)))
    (at_err _ _ c.from_residual.ensures.1)

pub play_lost-requires : goal.play_lost-requires
unfolding frame_refusal
play_lost-requires c = sym (ap code_of c.in_ok-lost.ensures)

pub returns : goal.returns
returns c =
    let a = c.args in
    let khz = to_z-of_z c.ranges.khz in
    let nb = to_z-of_z c.ranges.nb_subfr in
    let e = c.play_lost.ensures in (
      e.0 ∙ λ i. frame_answer a.s (frame_call (khz i) (nb i) Lost a.c [] [] [] a.xq.now),
      e.1 ∙ λ i. frame_output a.s (frame_call (khz i) (nb i) Lost a.c [] [] [] a.xq.now),
    )
