use mathlib.Core.Path.{◌≡◌, ◌∙◌}
use lib.IntN.{pos}
use lib.ListN.{replicate}
use mir.Syntax.{w32}
use mir.Val.{to_z, of_z}
use mir.Facts.{to_z-of_z}
use Rattle.shape.specs.Shape.{rate_of}
use Rattle.decode_frame.specs.Call.{Call, frame_call}
use Rattle.decode_frame.specs.Answer.{frame_answer, frame_output}
use Rattle.refusal.proofs.Clear.{at_err}
use Rattle.load.specs.Load.{control_of, rows_of, lines_of, pulses_of, frame_of}
use Rattle.load_stream.specs.Stream.{call}
use Rattle.load_stream.proofs.Played.{with_samples, heard_with}
use Rattle.load_stream.proofs.heard_of.Goals.{After-frame_of}
use Rattle.load_stream.proofs.heard_of.Goals as goal

-- what the call brings
abbrev brought : After-frame_of → Call
brought c =
    frame_call (to_z w32 (of_z w32 c.args.rate)) (to_z w32 (of_z w32 c.args.subframes)) c.frame_of.result c.control_of-c.result c.rows_of-rows.result c.lines_of-lines.result c.pulses_of-pulses.result (replicate 320 (pos 0))

made : (c : After-frame_of) → brought c ≡ call c.args.s c.args.rate c.args.subframes c.args.x
made c =
    let x = to_z-of_z c.ranges.x in
    let h = to_z-of_z c.ranges.rate in
    let m = to_z-of_z c.ranges.subframes in
    let ef = c.frame_of.ensures ∙ λ i. frame_of (x i) in
    let en = c.control_of-c.ensures ∙ λ i. control_of (x i) (rate_of (h i)) in
    let eo = c.rows_of-rows.ensures ∙ λ i. rows_of (x i) in
    let el = c.lines_of-lines.ensures ∙ λ i. lines_of (x i) in
    let ep = c.pulses_of-pulses.ensures ∙ λ i. pulses_of (x i) in
    λ i. frame_call (h i) (m i) (ef i) (en i) (eo i) (el i) (ep i) (replicate 320 (pos 0))

pub returns-in_err-a : goal.returns-in_err-a
returns-in_err-a c =
    let t = c.args.s in
    let d = made (goal.at.returns-in_err-a c).After-frame_of in
    let a = c.in_err-a.ensures.0 ∙ λ i. frame_answer t (d i) in
    let g = c.in_err-a.ensures.1 ∙ λ i. frame_output t (d i) in
    at_err _ _ c.from_residual.ensures.1 ∙ (λ i. with_samples (g i) (a i)) ∙ heard_with t c.args.rate c.args.subframes c.args.x

pub returns : goal.returns
returns c =
    let t = c.args.s in
    let d = made (goal.at.returns c).After-frame_of in
    let a = c.in_ok-a.ensures.0 ∙ λ i. frame_answer t (d i) in
    let g = c.in_ok-a.ensures.1 ∙ λ i. frame_output t (d i) in
    (λ i. with_samples (g i) (a i)) ∙ heard_with t c.args.rate c.args.subframes c.args.x
