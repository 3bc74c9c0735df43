use Prim.Native.Nat.{ℕ, ◌%◌}
use mathlib.Core.Path.{◌≡◌, sym, ap, ◌∙◌, subst}
use lib.Dec.{eqb}
use native.Mathlib.Omega.{arith}
use Rattle.generator.specs.Leaps.{joined, times}
use Rattle.generator.proofs.Joining.{Cut, cut-none, cut-one, cut_if, cut-joined, none_first, none_left, halved}
use Rattle.generator.proofs.leap_of.Goals as goal

pub loop-left-init : goal.loop-left-init
loop-left-init c =
    let e = c.one_draw-power.ensures in
    let n = c.no_draw-all.ensures in
    (rw (e, n) (none_first _), subst Cut (sym n) cut-none, subst Cut (sym e) cut-one)

pub loop-left-preserved : goal.loop-left-preserved
loop-left-preserved c =
    let l = c.loop-left in
    let j = c.joined_if_odd-all.ensures in
    let e = c.joined-power.ensures in
    (rw (e, j) (halved l.all l.power l.left l.invariant.1 l.invariant.2 ∙ l.invariant.0), subst Cut (sym j) (cut_if (eqb (l.left % 2) 1) l.all l.power l.invariant.1), subst Cut (sym e) (cut-joined l.power l.power))

pub returns : goal.returns
returns c =
    let l = c.loop-left in
    let e : l.left ≡ 0 = omega (arith, c.loop-left-test.false) in
    sym (none_left l.all l.power l.invariant.1) ∙ ap (λ (n : ℕ). joined l.all (times l.power n)) (sym e) ∙ l.invariant.0
