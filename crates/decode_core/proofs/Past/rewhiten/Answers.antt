use Prim.Native.Nat.{ℕ, ◌+◌, ◌-◌}
use mathlib.Core.Path.{◌≡◌, ap, ◌∙◌}
use mathlib.Core.List.{List, ◌++◌}
use native.Mathlib.Omega.{arith}
use borrow.Rule.Slice.PartMut.{put_mid}
use lib.IntN.{ℤ}
use lib.ListN.{length, take, drop, length-drop}
use lib.Seq.{length-take-le}
use mir.Facts.{to_z-of_z}
use Rattle.macros.specs.Fixed.{smulwb}
use Rattle.macros.proofs.Ranges.{smulwb-fits}
use Rattle.shape.specs.Order.{size}
use Rattle.sigproc.specs.Analysis.{residual}
use Rattle.decode_core.specs.Core.{refilled}
use Rattle.decode_core.proofs.Whiten.{in_view, refill-part, refilled-view, refilled-words}
use Rattle.decode_core.proofs.Past.rewhiten.Goals.{After-rewhiten}
use Rattle.decode_core.proofs.Past.rewhiten.Goals as goal

changed : (c : After-rewhiten) → let p = c.self.inside in let from = p.idx - c.args.lag - 2 in
    put_mid from (p.idx - from) p.q15 c.rewhiten.new.to ≡ refilled (take p.idx p.q15) (c.args.lag + 2) (λ i. smulwb c.args.inverse (residual c.args.out_buf.now c.args.row.now (size c.args.order) i)) ++ drop p.idx p.q15
changed c =
    let a = c.args in
    let p = c.self.inside in
    let v = c.self.invariant.0 in
    let m = a.lag + 2 in
    let from = p.idx - a.lag - 2 in
    let f : ℕ → ℤ = λ i. smulwb a.inverse (residual a.out_buf.now a.row.now (size a.order) i) in
    let l = in_view p.q15 p.idx c.self.view_is v c.self.invariant.1 in
    let n : length (take (p.idx - from) (drop from p.q15)) ≡ m = length-take-le (p.idx - from) (drop from p.q15) (simp length-drop (omega (arith, v.count))) ∙ omega (arith, c.requires) in
    refill-part p.q15 m from p.idx f c.rewhiten.new.to (omega (arith, c.requires)) (omega (arith, v.count))
    (rw (n, to_z-of_z c.ranges.inverse) at c.rewhiten.ensures)

pub invariant_of-self : goal.invariant_of-self
invariant_of-self c =
    let p = c.self.inside in
    let v = c.self.invariant.0 in
    let l = in_view p.q15 p.idx c.self.view_is v c.self.invariant.1 in
    (rw (changed (goal.at.invariant_of-self c).After-rewhiten) (refilled-words p.q15 p.idx (c.args.lag + 2) _ v c.self.invariant.1 (omega (arith, c.requires)) (λ i. smulwb-fits _ _)), c.self.invariant.1)

pub returns : goal.returns
returns c =
    let p = c.self.inside in
    let v = c.self.invariant.0 in
    let l = in_view p.q15 p.idx c.self.view_is v c.self.invariant.1 in
    ap (take p.idx) (changed (goal.at.returns c).After-rewhiten) ∙ refilled-view p.q15 p.idx (c.args.lag + 2) _ v c.self.invariant.1 (omega (arith, c.requires))
    ∙ ap (λ (x : List ℤ). refilled x (c.args.lag + 2) (λ i. smulwb c.args.inverse (residual c.args.out_buf.now c.args.row.now (size c.args.order) i))) c.self.view_is
