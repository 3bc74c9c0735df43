use mathlib.Core.Path.{ap, ◌∙◌}
use mir.Syntax.{w32}
use Rattle.word.proofs.Words.{kept}
use Rattle.decoder.specs.declared.Frame.TheVariants.{Received}
use Rattle.decode_frame.specs.Call.{frame_call}
use Rattle.decode_frame.specs.Answer.{frame_answer, frame_output}
use Rattle.layout.specs.Frame.{rate_in, subframes_in, control_in, rows_in, lines_in}
use Rattle.slices.specs.Slices.{slices, lent}
use Rattle.slices.specs.Whole.{played_on, answered}
use Rattle.slices.proofs.Ends.{taken}
use Rattle.slices.proofs.received.Goals as goal

pub returns-clause-answer : goal.returns-clause-answer
unfolding answered played_on
returns-clause-answer c =
    let a = c.args in
    let x = c.state-s.ensures in
    let f = c.numbers-numbers.ensures in
    let g = c.coefs-coefs.ensures in
    let y = c.control-c.ensures ∙ λ i. control_in (f i) (g i) in
    let z = c.rows-rows.ensures ∙ ap rows_in g in
    let n = c.lines-lines.ensures ∙ ap lines_in g in
    let u = c.rate-rate in
    let v = c.subframes-subframes in
    let k = kept w32 _ u.type_inv ∙ u.ensures ∙ ap rate_in f in
    let m = kept w32 _ v.type_inv ∙ v.ensures ∙ ap subframes_in f in
    let e = c.play_received.ensures in
    let b = lent a.state.now a.frame.now a.pulses.now a.output.now in
    let s = c.put_answer.ensures.stored in
    taken (played_on (Received a.q) b) b (e.0 ∙ λ i. frame_answer (x i) (frame_call (k i) (m i) (Received a.q) (y i) (z i) (n i) a.pulses.now a.output.now))
    (λ i. slices (s.0 i) (s.1 i) (s.2 i) (s.3 i) a.pulses.now ((e.1 ∙ λ j. frame_output (x j) (frame_call (k j) (m j) (Received a.q) (y j) (z j) (n j) a.pulses.now a.output.now)) i))
