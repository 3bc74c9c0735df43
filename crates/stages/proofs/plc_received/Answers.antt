use mathlib.Core.Path.{◌∙◌}
use mathlib.Core.List.{[]}
use Rattle.plc.specs.Answer.{plc_received}
use Rattle.slices.specs.Slices.{slices}
use Rattle.stages.specs.Stages.{plc_received_on}
use Rattle.stages.proofs.Ends.{stored_alone}
use Rattle.stages.proofs.plc_received.Goals as goal

pub returns-clause-answer : goal.returns-clause-answer
unfolding plc_received_on
returns-clause-answer c =
    let a = c.args in
    let m = slices a.state.now.words.now a.state.now.halves.now a.frame.numbers.now a.coefs.coefs.now [] [] in
    let x = c.state-s.ensures in
    let q = c.params-q.ensures in
    let y = c.control-c.ensures in
    let z = c.rows-rows.ensures in
    stored_alone m _ c.stored.ensures.answer _ (c.silk_plc_received-answer.ensures ∙ λ i. plc_received (x i) (q i) (y i) (z i))
