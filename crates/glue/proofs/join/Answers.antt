use Prim.Native.Nat.{◌≤◌}
use mathlib.Core.Path.{◌≡◌, refl, sym, ap, subst, ◌∙◌}
use native.Mathlib.Omega.{arith}
use borrow.Author.Rules.{rules}
use lib.IntN.{ℤ, pos, nat_abs}
use lib.ListN.{length}
use mathlib.Core.List.{List}
use mir.Syntax.{w32}
use mir.Val.{to_z, of_z}
use mir.Facts.{to_z_pos}
use Rattle.word.proofs.Words.{kept}
use Rattle.sigproc.specs.Energy.{energy_at, energy_shift, sum_sqr_shift}
use Rattle.sigproc.specs.declared.Energy.{Energy}
use Rattle.glue.specs.Glue.{lowered, joined}
use Rattle.glue.proofs.Shifts.{shift_most}
use Rattle.glue.proofs.join.Goals.{After-lowered-concealed}
use Rattle.glue.proofs.join.Goals as goal

-- the frame's energy and shift
energy_is : (x : List ℤ) (e : Energy) → e ≡ sum_sqr_shift x → to_z w32 (of_z w32 e.energy) ≡ e.energy → to_z w32 (of_z w32 e.energy) ≡ pos (energy_at x (energy_shift x))
unfolding sum_sqr_shift
energy_is x e p k = k ∙ rw p

shift_is : (x : List ℤ) (e : Energy) → e ≡ sum_sqr_shift x → to_z w32 (of_z w32 e.shift) ≡ e.shift → to_z w32 (of_z w32 e.shift) ≡ pos (energy_shift x)
unfolding sum_sqr_shift
shift_is x e p k = k ∙ rw p

energy : (c : After-lowered-concealed) → let x = c.args.frame.now in to_z w32 (of_z w32 c.silk_sum_sqr_shift-e.result.energy) ≡ pos (energy_at x (energy_shift x))
energy c = energy_is c.args.frame.now c.silk_sum_sqr_shift-e.result c.silk_sum_sqr_shift-e.ensures (kept w32 _ (search rules))

shift : (c : After-lowered-concealed) → to_z w32 (of_z w32 c.silk_sum_sqr_shift-e.result.shift) ≡ pos (energy_shift c.args.frame.now)
shift c = shift_is c.args.frame.now c.silk_sum_sqr_shift-e.result c.silk_sum_sqr_shift-e.ensures (kept w32 _ (search rules))

-- both energies at the larger shift
received : (c : After-lowered-concealed) → let a = c.args in let x = a.frame.now in to_z w32 (of_z w32 c.lowered-received.result) ≡ pos (lowered (pos (energy_at x (energy_shift x))) (nat_abs a.held.shift) (energy_shift x))
received c = kept w32 _ c.lowered-received.type_inv ∙ c.lowered-received.ensures ∙ rw (energy c, shift c) refl

concealed : (c : After-lowered-concealed) → let a = c.args in to_z w32 (of_z w32 c.lowered-concealed.result) ≡ pos (lowered a.held.energy (energy_shift a.frame.now) (nat_abs a.held.shift))
concealed c = kept w32 _ c.lowered-concealed.type_inv ∙ c.lowered-concealed.ensures ∙ rw (shift c) refl

-- the frame's energy is not negative, and its shift small
pub invariant_of-own : goal.invariant_of-own
invariant_of-own c =
    let x = c.args.frame.now in
    let e = c.silk_sum_sqr_shift-e in
    let p = energy_is x e.result e.ensures (kept w32 _ (search rules)) in
    let q = shift_is x e.result e.ensures (kept w32 _ (search rules)) in
    record {
      natural = p ∙ ap (λ (z : ℤ). pos (nat_abs z)) (sym p);
      places = q ∙ ap (λ (z : ℤ). pos (nat_abs z)) (sym q);
      most = subst (λ (z : ℤ). nat_abs z ≤ 31) (sym q) (shift_most x c.requires.1);
    }

pub returns-then-concealed-received : goal.returns-then-concealed-received
unfolding joined
returns-then-concealed-received c =
    let o = (goal.at.returns-then-concealed-received c).After-lowered-concealed in
    let k = concealed o in
    let q = received o in
    let gain = kept w32 c.start_gain-gain.result c.start_gain-gain.type_inv ∙ c.start_gain-gain.ensures in
    rw (
      c.ramp.ensures,
      kept w32 c.slope_of-slope.result c.slope_of-slope.type_inv,
      c.slope_of-slope.ensures,
      gain,
      k,
      q,
      to_z_pos w32 {n = length c.args.frame.now} (omega arith),
      rw (k, q) at c.if-concealed-received.true,
    )

pub returns-else-concealed-received : goal.returns-else-concealed-received
unfolding joined
returns-else-concealed-received c =
    let o = (goal.at.returns-else-concealed-received c).After-lowered-concealed in
    rw (rw (concealed o, received o) at c.if-concealed-received.false) refl
