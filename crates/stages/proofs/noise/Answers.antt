use mathlib.Core.Path.{◌∙◌}
use mathlib.Core.List.{[]}
use Rattle.cng.specs.Answer.{cng_answer, cng_output}
use Rattle.slices.specs.Slices.{slices}
use Rattle.stages.specs.Stages.{noise_on}
use Rattle.stages.proofs.Ends.{stored_beside}
use Rattle.stages.proofs.noise.Goals as goal

pub returns-clause-answer : goal.returns-clause-answer
unfolding noise_on cng_answer cng_output
returns-clause-answer c =
    let a = c.args in
    let m = slices a.state.now.words.now a.state.now.halves.now a.frame.numbers.now [] [] a.buffer.now in
    let x = c.state-s.ensures in
    let y = c.tapless-c.ensures in
    let e = c.silk_cng-answer.ensures in
    stored_beside m _ c.stored.ensures.answer _ _ _ (e.0 ∙ λ i. cng_answer (x i) (y i) a.buffer.now a.n) (e.1 ∙ λ i. cng_output (x i) (y i) a.buffer.now a.n)
