use Prim.Native.Nat.{ℕ, ◌-◌, ◌<◌, ◌^◌}
use mathlib.Core.Path.{◌≡◌, refl, sym, ◌∙◌}
use native.Mathlib.Omega.{arith}
use borrow.Author.Rules.{rules}
use lib.IntN.{ℤ, pos}
use lib.Signed.{mag}
use lib.ListN.{get_or}
use Rattle.std.proofs.lemmas.Result.{err_from_is_err_and}
use mir.Syntax.{w32}
use mir.Val.{to_z, of_z}
use mir.Facts.{to_z-of_z}
use Rattle.word.proofs.Words.{kept}
use Rattle.stability.specs.Stability.{Stability, a_limit, next_coefficients, goes_on, step, steps}
use Rattle.stability.proofs.Turns.{turn_ends, turn_overflows, turn-goes_on}
use Rattle.stability.proofs.lpc_inverse_pred_gain_qa.Goals.{After-goes_on}
use Rattle.stability.proofs.lpc_inverse_pred_gain_qa.Goals as goal

-- the tests of a step on a coefficient that was read
tests : {r : Stability} (x g : ℤ) (k : ℕ) → mag x < 2 ^ 31 → r ≡ step a_limit (to_z w32 (of_z w32 x)) g k → step a_limit x g k ≡ r
tests x g k f e = rw (kept w32 x f) at (sym e)

-- whether the test goes on after a turn's step
whether : (c : After-goes_on) → goes_on c.args.edition (next_coefficients c.loop-k.a (c.loop-k.k - 1)) ≡ c.goes_on.result
unfolding goes_on
whether c = sym (rw (c.goes_on.ensures, to_z-of_z c.ranges.edition, c.next_coefficients-fits.ensures.0))

pub returns-in_err-gain : goal.returns-in_err-gain
returns-in_err-gain c =
    let l = c.loop-k in
    let p = err_from_is_err_and c.from_residual.result c.from_residual.ensures.1 in
    let t = tests (get_or l.a (l.k - 1) (pos 0)) (to_z w32 l.gain-bits) (l.k - 1) c.step-arg-1.given c.step.ensures ∙ c.in_err-gain.was in
    rw (p.1, p.2) (sym (rw (to_z-of_z c.ranges.edition) at l.invariant.2 ∙ turn_ends a_limit _ l.a (to_z w32 l.gain-bits) (l.k - 1) (omega arith) t))

pub returns-then-not-goes_on : goal.returns-then-not-goes_on
returns-then-not-goes_on c =
    let l = c.loop-k in
    let t = tests (get_or l.a (l.k - 1) (pos 0)) (to_z w32 l.gain-bits) (l.k - 1) c.step-arg-1.given c.step.ensures ∙ c.in_ok-gain.was in
    sym (rw (to_z-of_z c.ranges.edition) at l.invariant.2 ∙ turn_overflows a_limit _ l.a (to_z w32 l.gain-bits) (l.k - 1) (omega arith) t (whether c.before ∙ c.if-not-goes_on.true))

pub loop-k-preserved : goal.loop-k-preserved
loop-k-preserved c =
    let l = c.loop-k in
    let t = tests (get_or l.a (l.k - 1) (pos 0)) (to_z w32 l.gain-bits) (l.k - 1) c.step-arg-1.given c.step.ensures ∙ c.in_ok-gain.was in
    let e = turn-goes_on a_limit c.args.edition l.a (to_z w32 l.gain-bits) (l.k - 1) (omega arith) c.next_coefficients-fits.new.a t (whether c.before ∙ c.if-not-goes_on.false) c.next_coefficients-fits.ensures.1 in
    let f = to_z-of_z c.ranges.edition in
    let g : to_z w32 (of_z w32 c.in_ok-gain.gain) ≡ c.in_ok-gain.gain = kept w32 c.in_ok-gain.gain (search rules) in
    (search rules, search rules, rw (f, g) (rw f at l.invariant.2 ∙ e))

pub returns : goal.returns
returns c =
    let l = c.loop-k in
    let z : l.k - 1 ≡ 0 = omega arith in
    let t : steps a_limit c.args.edition l.a (to_z w32 l.gain-bits) 0 ≡ step a_limit (get_or l.a 0 (pos 0)) (to_z w32 l.gain-bits) 0 = unfold steps in refl in
    rw (c.step-2.ensures, kept w32 (get_or l.a 0 (pos 0)) c.step-arg-2-1.given) (sym (rw (to_z-of_z c.ranges.edition, z) at l.invariant.2 ∙ t))
