use mathlib.Core.Path.{ap, ◌∙◌}
use mathlib.Core.List.{[]}
use lib.ListN.{length}
use mir.Syntax.{w32}
use Rattle.word.proofs.Words.{kept}
use Rattle.refusal.specs.First.{first_of}
use Rattle.refusal.specs.Refusals.{code_of}
use Rattle.decoder.specs.declared.Frame.TheVariants.{Lost}
use Rattle.decode_frame.specs.WholeFrame.{whole_frame}
use Rattle.judge.specs.Rows.{lost_rows}
use Rattle.decode_frame.specs.Call.{frame_call}
use Rattle.decode_frame.specs.Answer.{frame_refusal, frame_answer, frame_output}
use Rattle.layout.specs.Frame.{rate_in, subframes_in, control_in}
use Rattle.slices.specs.Slices.{slices, lent}
use Rattle.slices.specs.Whole.{played_on, answered}
use Rattle.slices.proofs.Ends.{taken}
use Rattle.slices.proofs.lost.Goals as goal

pub play_lost-requires : goal.play_lost-requires
unfolding frame_refusal
play_lost-requires c =
    let x = c.state-s.ensures in
    let n = c.numbers-numbers.ensures in
    let u = c.rate-rate in
    let v = c.subframes-subframes in
    let k = kept w32 _ u.type_inv ∙ u.ensures ∙ ap rate_in n in
    let m = kept w32 _ v.type_inv ∙ v.ensures ∙ ap subframes_in n in
    (λ i. code_of (first_of (lost_rows (k i) (m i) (x i) (length c.args.output.now)))) ∙ c.requires

pub returns-clause-answer : goal.returns-clause-answer
unfolding answered played_on frame_output frame_refusal whole_frame frame_answer
returns-clause-answer c =
    let a = c.args in
    let x = c.state-s.ensures in
    let y = c.control-c.ensures ∙ λ i. control_in (c.numbers-numbers.ensures i) (c.coefs.ensures i) in
    let n = c.numbers-numbers.ensures in
    let u = c.rate-rate in
    let v = c.subframes-subframes in
    let k = kept w32 _ u.type_inv ∙ u.ensures ∙ ap rate_in n in
    let m = kept w32 _ v.type_inv ∙ v.ensures ∙ ap subframes_in n in
    let e = c.play_lost.ensures in
    let b = lent a.state.now a.frame.now a.pulses.now a.output.now in
    let s = c.put_answer.ensures.stored in
    taken (played_on Lost b) b (e.0 ∙ λ i. frame_answer (x i) (frame_call (k i) (m i) Lost (y i) [] [] [] a.output.now))
    (λ i. slices (s.0 i) (s.1 i) (s.2 i) (s.3 i) a.pulses.now ((e.1 ∙ λ j. frame_output (x j) (frame_call (k j) (m j) Lost (y j) [] [] [] a.output.now)) i))
