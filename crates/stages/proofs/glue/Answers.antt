use mathlib.Core.Path.{◌∙◌}
use mathlib.Core.List.{[]}
use Rattle.glue.specs.Answer.{glue_answer, glue_output}
use Rattle.slices.specs.Slices.{slices}
use Rattle.stages.specs.Stages.{glue_on}
use Rattle.stages.proofs.Ends.{stored_beside}
use Rattle.stages.proofs.glue.Goals as goal

pub returns-clause-answer : goal.returns-clause-answer
unfolding glue_on glue_answer glue_output
returns-clause-answer c =
    let a = c.args in
    let m = slices a.state.now.words.now a.state.now.halves.now [] [] [] a.buffer.now in
    let x = c.state-s.ensures in
    let e = c.silk_plc_glue_frames-answer.ensures in
    stored_beside m _ c.stored.ensures.answer _ _ _ (e.0 ∙ λ i. glue_answer (x i) a.buffer.now a.n) (e.1 ∙ λ i. glue_output (x i) a.buffer.now a.n)
