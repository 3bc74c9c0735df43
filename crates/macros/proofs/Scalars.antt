-- Sizes of what SILK's functions give.
use Prim.Native.Nat.{ℕ, suc, ◌+◌, ◌*◌, ◌/◌, ◌^◌, ◌<◌, ◌≤◌}
use mathlib.Core.Path.{◌≡◌, ◌∙◌}
use native.Mathlib.Omega.{arith}
use lib.Pow.{pow_pos}
use native.Mathlib.Nat.{pow-suc, le_trans, mul-le-mul_left, mul-le-mul_right}
use lib.IntN.{ℤ, pos, nat_abs, ◌+ℤ◌, ◌*ℤ◌}
use mir.Syntax.{w16, w32}
use Rattle.word.specs.Int.{floor_div, wrap16}
use Rattle.macros.specs.Fixed.{smulww, smulwb, smulbb, smlawb, rshift_round}
use Rattle.word.proofs.Sizes.{abs-add, abs-mul, abs-div, abs-wrap, abs_round}
use Rattle.macros.proofs.Rounding.{round_at}

pub abs-smulbb : (y z : ℤ) (A B : ℕ) → nat_abs y ≤ A → nat_abs z ≤ B → nat_abs (smulbb y z) ≤ A * B
unfolding smulbb
abs-smulbb y z A B hy hz =
    rw (abs-mul (wrap16 y) (wrap16 z))
    (le_trans (mul-le-mul_right (nat_abs (wrap16 z)) (le_trans (abs-wrap w16 y) hy)) (mul-le-mul_left A (le_trans (abs-wrap w16 z) hz)))

pub abs-smulwb : (y z : ℤ) (A B : ℕ) → nat_abs y ≤ A → nat_abs z ≤ B → 65536 * nat_abs (smulwb y z) ≤ A * B + 65535
unfolding smulwb
abs-smulwb y z A B hy hz =
    let m : nat_abs (y *ℤ wrap16 z) ≤ A * B =
    rw (abs-mul y (wrap16 z)) (le_trans (mul-le-mul_right (nat_abs (wrap16 z)) hy) (mul-le-mul_left A (le_trans (abs-wrap w16 z) hz))) in
    omega (arith, abs-div (y *ℤ wrap16 z) (2 ^ 16) (omega arith), abs-wrap w32 (floor_div (y *ℤ wrap16 z) (2 ^ 16)))

pub abs-smulww : (y z : ℤ) (A B : ℕ) → nat_abs y ≤ A → nat_abs z ≤ B → 65536 * nat_abs (smulww y z) ≤ A * B + 65535
unfolding smulww
abs-smulww y z A B hy hz =
    let m : nat_abs (y *ℤ z) ≤ A * B =
    rw (abs-mul y z) (le_trans (mul-le-mul_right (nat_abs z) hy) (mul-le-mul_left A hz)) in
    omega (arith, abs-div (y *ℤ z) (2 ^ 16) (omega arith), abs-wrap w32 (floor_div (y *ℤ z) (2 ^ 16)))

pub abs-smlawb : (x y z : ℤ) (A B : ℕ) → nat_abs y ≤ A → nat_abs z ≤ B → nat_abs (smlawb x y z) ≤ nat_abs x + (A * B + 65535) / 65536
unfolding smlawb
abs-smlawb x y z A B hy hz =
    omega (arith, abs-smulwb y z A B hy hz, abs-add x (smulwb y z), abs-wrap w32 (x +ℤ smulwb y z))

-- a rounding shift by n places
pub abs-rshift_round : (z : ℤ) (n : ℕ) → n < 30 → 2 ^ suc n * nat_abs (rshift_round z (pos (suc n))) ≤ nat_abs z + 2 ^ n
abs-rshift_round z n h =
    let e : 2 ^ suc n ≡ 2 ^ n + 2 ^ n = pow-suc 2 n ∙ omega arith in
    rw (round_at z n h) (abs_round z (2 ^ n) (2 ^ suc n) (pow_pos n) e)
