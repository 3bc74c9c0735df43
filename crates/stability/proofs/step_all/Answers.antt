use Prim.Native.Nat.{ℕ, ◌+◌, ◌-◌, ◌<◌}
use mathlib.Core.Path.{◌≡◌, refl, sym, ◌∙◌}
use mathlib.Core.Bool.{and_assoc}
use native.Mathlib.Nat.{le_antisymm}
use native.Mathlib.Numerals.{add-one}
use native.Mathlib.Omega.{arith}
use borrow.Author.Rules.{rules}
use lib.IntN.{ℤ, pos}
use lib.ListN.{get_or}
use mir.Syntax.{w32, w64}
use mir.Val.{to_z, of_z}
use mir.Facts.{to_z-of_z}
use Rattle.word.specs.Int.{wrap32}
use Rattle.word.proofs.Words.{kept, got}
use Rattle.word.proofs.Lists.{map-tabulate}
use Rattle.stability.specs.Stability.{stepped, fits32}
use Rattle.stability.proofs.Ends.{turned_none, turned_left, turned_right, turned_more, turned_all, every, pair, pairs_all}
use Rattle.stability.proofs.step_all.Invariants.{down}
use Rattle.stability.proofs.step_all.Goals as goal

pub loop-n-init : goal.loop-n-init
unfolding every
loop-n-init c = (search rules, search rules, search rules, refl, turned_none _ c.args.a.now c.args.k)

pub loop-n-preserved : goal.loop-n-preserved
unfolding every
loop-n-preserved c =
    let s = c.args in
    let a = s.a.now in
    let k = s.k in
    let n = c.loop-n.n in
    let i = c.loop-n.invariant in
    let f = down (to_z w32 (of_z w32 s.rc)) (to_z w32 (of_z w32 s.mult2)) (to_z w32 (of_z w32 s.q)) a k in
    let g : ℕ → ℤ = λ j. wrap32 (f j) in
    let h : n + n < k = omega (arith, c.loop-n-test.true) in
    let left = kept w32 (get_or c.loop-n.a n (pos 0)) c.x-1.given ∙ turned_left g a k c.loop-n.a n h i.4 in
    let right = kept w32 (get_or c.loop-n.a (k - 1 - n) (pos 0)) c.y-1.given ∙ turned_right g a k c.loop-n.a n h i.4 in
    let back : k - 1 - (k - 1 - n) ≡ n = omega arith in
    let pu : c.step_down-u.result ≡ f n = rw (c.step_down-u.ensures, left, right) in
    let pv : c.step_down-v.result ≡ f (k - 1 - n) = rw (c.step_down-v.ensures, left, right, back) in
    let eu = got w64 c.step_down-u.type_inv pu in
    let ev = got w64 c.step_down-v.type_inv pv in (
      search rules,
      search rules,
      search rules,
      rw (c.fits32-in-loop-n.ensures, c.fits32.ensures, eu, ev, i.3, add-one) (and_assoc (every n (pair f k)) (fits32 (f n)) (fits32 (f (k - 1 - n)))),
      rw (got w32 c.low32-in-loop-n.type_inv c.low32-in-loop-n.ensures, got w32 c.low32.type_inv c.low32.ensures, eu, ev) (turned_more g a k c.loop-n.a n h (search rules) i.4),
    )

pub returns : goal.returns
unfolding stepped
returns c =
    let i = c.loop-n.invariant in
    let a = c.args.a.now in
    let k = c.args.k in
    let f = down (to_z w32 (of_z w32 c.args.rc)) (to_z w32 (of_z w32 c.args.mult2)) (to_z w32 (of_z w32 c.args.q)) a k in
    let e = le_antisymm i.0 c.loop-n-test.false ∙ i.1 in
    rw (← to_z-of_z c.ranges.rc, ← to_z-of_z c.ranges.mult2, ← to_z-of_z c.ranges.q) (
      rw e at i.3 ∙ pairs_all f k,
      turned_all (λ j. wrap32 (f j)) a k c.loop-n.a (search rules) (rw e at i.4) ∙ sym (map-tabulate wrap32 f k),
    )
