use Rattle.std.proofs.Common.{◌≡◌, ℕ, ◌+◌, ◌-◌, List, ◌++◌, length, take, drop, ℤ, pos, replicate, refl, ap, ◌∙◌, le_refl, le_antisymm, arith, w16, rules, length-append, length-drop, length-take-le}
use Rattle.std.proofs.lemmas.List.{length-replicate}
use Rattle.word.specs.Tabulate.{tabulate}
use Rattle.word.proofs.Words.{kept}
use Rattle.sigproc.specs.Analysis.{residual, analysis}
use Rattle.sigproc.proofs.Coefficients.{residual_first}
use Rattle.sigproc.proofs.Fill.{turn, filled, zeros_then, end_new}
use Rattle.sigproc.proofs.analysis_filter.Goals as goal

pub loop-i-init : goal.loop-i-init
unfolding tabulate
loop-i-init g c = (refl, refl)

pub loop-i-preserved : goal.loop-i-preserved
loop-i-preserved g c =
    let a = c.args in
    let d = g.row.ORDER in (
      search rules,
      turn _ (λ j. residual a.input.now a.b.now d (d + j)) c.loop-i.i c.loop-i.x-items _ c.loop-i-test.true c.loop-i.invariant.1
          (rw (kept w16 _ c.residual.type_inv, c.residual.ensures) (residual_first a.input.now a.b.now d (d + c.loop-i.i) (omega arith))),
    )

pub returns : goal.returns
unfolding analysis
returns g c =
    let a = c.args in
    let d = g.row.ORDER in
    let n = length a.input.now in
    let f : ℕ → ℤ = residual a.input.now a.b.now d in
    let xs : List ℤ = c.fill.new.self ++ drop d a.out.now in
    let z : c.fill.new.self ≡ replicate d (pos 0) = c.fill.ensures.after (λ y h. cc) ∙ rw (length-take-le d a.out.now (omega arith)) refl in
    let l : length c.fill.new.self ≡ d = ap length z ∙ length-replicate d (pos 0) in
    let k : length xs ≡ n = length-append c.fill.new.self (drop d a.out.now) ∙ rw (l, length-drop) (omega arith) in
    let m : length (take (length xs - d) (drop d xs)) ≡ n - d =
    length-take-le (length xs - d) (drop d xs) (rw (length-drop) (le_refl (length xs - d))) ∙ ap (λ (j : ℕ). j - d) k
    in
    let e : c.loop-i.x-items ≡ tabulate (n - d) (λ j. f (d + j)) =
    c.loop-i.invariant.1
    ∙ filled (tabulate c.loop-i.i (λ j. f (d + j))) _ c.loop-i.i c.loop-i-test.false
    ∙ ap (λ (j : ℕ). tabulate j (λ i. f (d + i))) (le_antisymm c.loop-i.auto.i-end c.loop-i-test.false ∙ m)
    in
    end_new c.fill.new.self (drop d a.out.now) c.loop-i.x-items d l ∙ (λ i. z i ++ e i) ∙ zeros_then d n f (omega arith)
