use mathlib.Core.Path.{refl, sym, ap, ◌∙◌}
use Rattle.decode_core.specs.Answer.{core_answer, core_output}
use Rattle.layout.specs.Frame.{params_in, control_in, rows_in}
use Rattle.slices.specs.Slices.{slices, lent}
use Rattle.slices.proofs.Ends.{lent_back, refused, taken}
use Rattle.stages.specs.Stages.{core_on}
use Rattle.stages.proofs.core.Goals as goal

pub returns-in-Err-clause-answer : goal.returns-in-Err-clause-answer
unfolding core_on core_answer core_output
returns-in-Err-clause-answer c =
    let a = c.args in
    let m = lent a.state.now a.frame.now a.pulses.now a.output.now in
    let x = c.state-s.ensures in
    let f = c.numbers-numbers.ensures in
    let k = c.coefs-coefs.ensures in
    let q = c.params-q.ensures ∙ ap params_in f in
    let y = c.control-c.ensures ∙ λ i. control_in (f i) (k i) in
    let z = c.rows-rows.ensures ∙ ap rows_in k in
    let e = c.silk_decode_core-answer.ensures in
    let r = sym c.in-Err.is ∙ e.0 ∙ λ i. core_answer (x i) (q i) (y i) (z i) a.pulses.now a.output.now in
    refused _ m r refl (e.1 ∙ (λ i. core_output (x i) (q i) (y i) (z i) a.pulses.now a.output.now) ∙ lent_back _ _ _ _ r)

pub returns-in-Ok-clause-answer : goal.returns-in-Ok-clause-answer
unfolding core_on
returns-in-Ok-clause-answer c =
    let a = c.args in
    let m = lent a.state.now a.frame.now a.pulses.now a.output.now in
    let x = c.state-s.ensures in
    let f = c.numbers-numbers.ensures in
    let k = c.coefs-coefs.ensures in
    let q = c.params-q.ensures ∙ ap params_in f in
    let y = c.control-c.ensures ∙ λ i. control_in (f i) (k i) in
    let z = c.rows-rows.ensures ∙ ap rows_in k in
    let e = c.silk_decode_core-answer.ensures in
    let p = c.put_answer.ensures.stored in
    let o = e.1 ∙ λ i. core_output (x i) (q i) (y i) (z i) a.pulses.now a.output.now in
    taken _ m (sym c.in-Ok.is ∙ e.0 ∙ λ i. core_answer (x i) (q i) (y i) (z i) a.pulses.now a.output.now) (λ i. slices (p.0 i) (p.1 i) (p.2 i) (p.3 i) a.pulses.now (o i))
