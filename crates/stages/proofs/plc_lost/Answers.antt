use mathlib.Core.Path.{refl, sym, ◌∙◌}
use mathlib.Core.List.{[]}
use Rattle.plc.specs.Answer.{plc_lost, plc_lost_output}
use Rattle.slices.specs.Slices.{slices}
use Rattle.slices.proofs.Ends.{lent_back, refused, taken}
use Rattle.stages.specs.Stages.{plc_lost_on}
use Rattle.stages.proofs.plc_lost.Goals as goal

pub returns-in-Err-clause-answer : goal.returns-in-Err-clause-answer
unfolding plc_lost_on plc_lost plc_lost_output
returns-in-Err-clause-answer c =
    let a = c.args in
    let m = slices a.state.now.words.now a.state.now.halves.now a.frame.now [] [] a.output.now in
    let x = c.state-s.ensures in
    let y = c.tapless-c.ensures in
    let e = c.silk_plc_lost-answer.ensures in
    let r = sym c.in-Err.is ∙ e.0 ∙ λ i. plc_lost (x i) (y i) a.output.now in
    refused _ m r refl (e.1 ∙ (λ i. plc_lost_output (x i) (y i) a.output.now) ∙ lent_back _ _ _ _ r)

pub returns-in-Ok-clause-answer : goal.returns-in-Ok-clause-answer
unfolding plc_lost_on
returns-in-Ok-clause-answer c =
    let a = c.args in
    let m = slices a.state.now.words.now a.state.now.halves.now a.frame.now [] [] a.output.now in
    let x = c.state-s.ensures in
    let y = c.tapless-c.ensures in
    let e = c.silk_plc_lost-answer.ensures in
    let p = c.put.ensures.stored in
    let l = c.put_lags.ensures in
    let o = e.1 ∙ λ i. plc_lost_output (x i) (y i) a.output.now in
    taken _ m (sym c.in-Ok.is ∙ e.0 ∙ λ i. plc_lost (x i) (y i) a.output.now) (λ i. slices (p.0 i) (p.1 i) (l i) [] [] (o i))
