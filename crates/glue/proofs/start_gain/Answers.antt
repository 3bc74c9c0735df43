use Prim.Native.Nat.{◌-◌, ◌/◌, ◌%◌, ◌^◌, ◌<◌}
use mathlib.Core.Path.{◌≡◌, ap, ◌∙◌}
use native.Mathlib.Omega.{arith}
use native.Mathlib.Nat.{mod-eq_of_lt}
use lib.IntN.{pos, nat_abs, ◌*ℤ◌}
use mir.Syntax.{w32}
use mir.Val.{to_z, of_z}
use mir.Facts.{to_z-of_z}
use Rattle.word.specs.Int.{wrap32, max_ℤ}
use Rattle.word.proofs.Words.{kept, wrap-fits}
use Rattle.macros.specs.Fixed.{clz32}
use Rattle.macros.proofs.Normal.{clz_le, quot_fits_pos}
use Rattle.glue.specs.Glue.{start_gain}
use Rattle.glue.proofs.Shifts.{difference, one_less, zeros_some, not_zero, divisor}
use Rattle.glue.proofs.start_gain.Goals.{After-shl32-up, After-shr32-down, After-silk_max_32-2, After-sub32-lz}
use Rattle.glue.proofs.start_gain.Goals as goal

-- the places that the concealed energy is shifted up by
places : (c : After-sub32-lz) → to_z w32 (of_z w32 c.sub32-lz.result) ≡ pos (clz32 (pos (nat_abs c.args.concealed)) - 1)
places c =
    let n = nat_abs c.args.concealed in
    let f : n < 2 ^ 31 = rw c.requires.0 at c.ranges.concealed.sfits in
    kept w32 _ c.sub32-lz.type_inv
    ∙ c.sub32-lz.ensures
    ∙ rw (kept w32 _ c.silk_clz32.type_inv, c.silk_clz32.ensures, to_z-of_z c.ranges.concealed, c.requires.0)
    (one_less (clz32 (pos n)) (zeros_some n f) (clz_le (pos n)))

up : (c : After-shl32-up) → let n = nat_abs c.args.concealed in to_z w32 (of_z w32 c.shl32-up.result) ≡ wrap32 (pos n *ℤ pos (2 ^ (clz32 (pos n) - 1)))
up c =
    let n = nat_abs c.args.concealed in
    let m : (clz32 (pos n) - 1) % 32 ≡ clz32 (pos n) - 1 = mod-eq_of_lt (omega (arith, clz_le (pos n))) in
    kept w32 _ c.shl32-up.type_inv
    ∙ c.shl32-up.ensures
    ∙ rw (places c.before, m, to_z-of_z c.ranges.concealed, c.requires.0)

down : (c : After-shr32-down) → let a = c.args in to_z w32 (of_z w32 c.shr32-down.result) ≡ pos (nat_abs a.received / 2 ^ (24 - (clz32 (pos (nat_abs a.concealed)) - 1)))
down c =
    let l = clz32 (pos (nat_abs c.args.concealed)) - 1 in
    let m : (24 - l) % 32 ≡ 24 - l = mod-eq_of_lt (omega arith) in
    kept w32 _ c.shr32-down.type_inv
    ∙ c.shr32-down.ensures
    ∙ rw (
      kept w32 c.silk_max_32.result c.silk_max_32.type_inv,
      c.silk_max_32.ensures,
      kept w32 c.sub32.result c.sub32.type_inv,
      c.sub32.ensures,
      places c.before.before.before.before,
      difference 24 l (omega arith) (omega (arith, clz_le (pos (nat_abs c.args.concealed)))),
      m,
      to_z-of_z c.ranges.received,
      c.requires.1,
    )

below : (c : After-silk_max_32-2) → let a = c.args in to_z w32 (of_z w32 c.silk_max_32-2.result) ≡ max_ℤ (pos (nat_abs a.received / 2 ^ (24 - (clz32 (pos (nat_abs a.concealed)) - 1)))) (pos 1)
below c =
    kept w32 _ c.silk_max_32-2.type_inv
    ∙ c.silk_max_32-2.ensures
    ∙ ap (λ z. max_ℤ z (pos 1)) (down c.before)

pub silk_div32-requires : goal.silk_div32-requires
silk_div32-requires c =
    let a = c.args in
    let d = divisor (nat_abs a.received / 2 ^ (24 - (clz32 (pos (nat_abs a.concealed)) - 1))) in
    rw (below c, up c.before.before.before.before, d.1) (not_zero d.0 d.2, quot_fits_pos (wrap32 _) d.0 (wrap-fits w32 _))

pub returns : goal.returns
unfolding start_gain
returns c =
    rw (
      kept w32 _ c.shl32.type_inv,
      c.shl32.ensures,
      kept w32 _ c.silk_sqrt_approx.type_inv,
      c.silk_sqrt_approx.ensures,
      kept w32 _ c.silk_div32.type_inv,
      c.silk_div32.ensures,
      below c.before.before.before,
      up c.before.before.before.before.before.before.before,
    )
