-- The sizes of a residual and of a played sample.
use Rattle.std.proofs.Common.{◌≡◌, ℕ, zero, suc, ◌+◌, ◌-◌, ◌*◌, ◌/◌, ◌^◌, ◌≤◌, List, get_or, ℤ, pos, ◌+ℤ◌, ◌-ℤ◌, ◌*ℤ◌, nat_abs, zero-le, le_refl, mul-le-mul_left, arith, w16, w32}
use Rattle.word.specs.Int.{wrap32}
use Rattle.word.specs.Size.{size_at, sizes, Bounded}
use Rattle.word.proofs.Sizes.{abs-add, abs-sub, abs-mul, abs-wrap, abs-clamp, fits-abs}
use Rattle.macros.specs.Fixed.{smulbb, smulww, rshift_round}
use Rattle.macros.proofs.Scalars.{abs-smulbb, abs-smulww, abs-rshift_round}
use Rattle.sigproc.specs.Analysis.{products, residual}
use Rattle.sigproc.specs.Synthesis.{played_q10, played}
use Rattle.sigproc.proofs.Ranges.{residual-fits}

products_le : (x a : List ℤ) (i X j : ℕ) → Bounded X x → nat_abs (products x a i j) ≤ X * sizes a j
unfolding products sizes
products_le x a i X zero h = zero-le
products_le x a i X (suc j) h =
    let p = products x a i j in
    let m = smulbb (get_or x (i - 1 - j) (pos 0)) (get_or a j (pos 0)) in
    let e : X * (sizes a j + size_at a j) ≡ X * sizes a j + X * size_at a j = omega arith in
    rw e (omega (
      arith,
      products_le x a i X j h,
      abs-smulbb (get_or x (i - 1 - j) (pos 0)) (get_or a j (pos 0)) X (size_at a j) (h (i - 1 - j)) (le_refl (size_at a j)),
      abs-add p m,
      abs-wrap w32 (p +ℤ m),
    ))

-- of a filter whose coefficients' sizes add up to at most 2,048
pub residual_le : (x a : List ℤ) (d i X : ℕ) → sizes a d ≤ 2048 → Bounded X x → nat_abs (residual x a d i) ≤ (3 * X + 1) / 2
unfolding residual
residual_le x a d i X s h =
    let y = get_or x i (pos 0) *ℤ pos (2 ^ 12) in
    let z = y -ℤ products x a i d in
    let m : X * sizes a d ≤ X * 2048 = mul-le-mul_left X s in
    omega (
      arith,
      h i,
      abs-mul (get_or x i (pos 0)) (pos (2 ^ 12)),
      products_le x a i X d h,
      abs-sub y (products x a i d),
      abs-wrap w32 z,
      abs-rshift_round (wrap32 z) 11 (omega arith),
      abs-clamp 32767 (rshift_round (wrap32 z) (pos 12)),
    )

pub residual_any : (x a : List ℤ) (d i : ℕ) → nat_abs (residual x a d i) ≤ 32768
residual_any x a d i = fits-abs {w = w16} (residual x a d i) (residual-fits x a d i)

pub played_le : (G : ℕ) (s : ℤ) (M : ℕ) → nat_abs s ≤ M → 2 ^ 30 * nat_abs (played (pos G) s) ≤ M * G + 2 ^ 30
unfolding played played_q10
played_le G s M h =
    let y = smulww s (pos (G / 64)) in
    let m : M * (64 * (G / 64)) ≤ M * G = mul-le-mul_left M (omega arith) in
    omega (arith, abs-smulww s (pos (G / 64)) M (G / 64) h (le_refl (G / 64)), abs-rshift_round y 7 (omega arith), abs-clamp 32767 (rshift_round y (pos 8)))
