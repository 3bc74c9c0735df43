use Prim.Native.Nat.{◌+◌, ◌-◌}
use mathlib.Core.Path.{◌≡◌, sym, ap, ◌∙◌}
use mathlib.Core.List.{List, ◌++◌}
use native.Mathlib.Omega.{arith}
use borrow.Rule.Slice.PartMut.{put_mid}
use lib.Dec.{lit<}
use lib.IntN.{ℤ, pos}
use lib.ListN.{get_or, take, drop}
use mir.Syntax.{w32}
use mir.Facts.{to_z-of_z}
use Rattle.word.proofs.Order.{key}
use Rattle.macros.specs.Fixed.{smulww}
use Rattle.macros.proofs.Ranges.{smulww-fits}
use Rattle.decode_core.specs.Core.{refilled}
use Rattle.decode_core.proofs.Whiten.{in_view, adjusted, unadjusted-part, refilled-view, refilled-words}
use Rattle.decode_core.proofs.Past.adjust.Goals.{After-adjust}
use Rattle.decode_core.proofs.Past.adjust.Goals as goal

changed : (c : After-adjust) → let p = c.self.inside in let from = p.idx - c.args.lag - 2 in
    put_mid from (p.idx - from) p.q15 c.adjust.new.xs ≡ refilled (take p.idx p.q15) (c.args.lag + 2) (λ i. smulww c.args.adj (get_or (take p.idx p.q15) i (pos 0))) ++ drop p.idx p.q15
changed c =
    let p = c.self.inside in
    let v = c.self.invariant.0 in
    let l = in_view p.q15 p.idx c.self.view_is v c.self.invariant.1 in
    rw (c.adjust.ensures, to_z-of_z c.ranges.adj) (adjusted p.q15 (c.args.lag + 2) (p.idx - c.args.lag - 2) p.idx c.args.adj (omega (arith, c.requires)) (omega (arith, v.count)))

pub invariant_of-self : goal.invariant_of-self
invariant_of-self c =
    let p = c.self.inside in
    let v = c.self.invariant.0 in
    let l = in_view p.q15 p.idx c.self.view_is v c.self.invariant.1 in
    (rw (changed (goal.at.invariant_of-self c).After-adjust) (refilled-words p.q15 p.idx (c.args.lag + 2) _ v c.self.invariant.1 (omega (arith, c.requires)) (λ i. smulww-fits _ _)), c.self.invariant.1)

pub returns-then-adj-ne65536 : goal.returns-then-adj-ne65536
returns-then-adj-ne65536 c =
    let p = c.self.inside in
    let v = c.self.invariant.0 in
    let l = in_view p.q15 p.idx c.self.view_is v c.self.invariant.1 in
    ap (take p.idx) (changed (goal.at.returns-then-adj-ne65536 c).After-adjust) ∙ refilled-view p.q15 p.idx (c.args.lag + 2) _ v c.self.invariant.1 (omega (arith, c.requires))
    ∙ ap (λ (x : List ℤ). refilled x (c.args.lag + 2) (λ i. smulww c.args.adj (get_or x i (pos 0)))) c.self.view_is

pub returns-else-adj-ne65536 : goal.returns-else-adj-ne65536
returns-else-adj-ne65536 c =
    let p = c.self.inside in
    let m = c.args.lag + 2 in
    let v = c.self.invariant.0 in
    let l = in_view p.q15 p.idx c.self.view_is v c.self.invariant.1 in
    let e = key w32 c.args.adj 65536 (lit< tt) c.ranges.adj c.if-adj-ne65536.false in
    sym c.self.view_is ∙ ap (take p.idx) (unadjusted-part p.q15 m (p.idx - c.args.lag - 2) p.idx v.fits (omega (arith, c.requires)) (omega (arith, v.count)))
    ∙ refilled-view p.q15 p.idx m _ v c.self.invariant.1 (omega (arith, c.requires))
    ∙ ap (λ (x : List ℤ). refilled x m (λ i. smulww (pos 65536) (get_or x i (pos 0)))) c.self.view_is
    ∙ ap (λ (a : ℤ). refilled c.args.self.now m (λ i. smulww a (get_or c.args.self.now i (pos 0)))) (sym e)
