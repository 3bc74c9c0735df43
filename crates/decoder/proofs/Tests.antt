-- Tests of words and of lengths.
use Prim.Native.Nat.{ℕ, ◌*◌, ◌^◌, ◌<◌, ◌≤◌}
use mathlib.Core.Path.{◌≡◌, refl, sym, ap, ◌∙◌}
use mathlib.Core.Bool.{Bool, true, false}
use native.Mathlib.Omega.{arith}
use native.Mathlib.Nat.{mul-le-mul, mul_assoc}
use borrow.Author.Tests.{eqb-true, eqb-false}
use lib.Dec.{eqb}
use lib.IntN.{ℤ, pos}
use mir.Syntax.{Width, w32}
use mir.Val.{of_z, SFits, hbits}
use Rattle.word.specs.Int.{eq_ℤ, wrap32}
use Rattle.word.proofs.Order.{is, isnt}
use mir.Facts.{to_z-of_z}
use Rattle.word.proofs.Words.{kept, wrap_id}
use Rattle.shape.specs.Shape.{rate_of, count_of, order_of}
use Rattle.shape.proofs.Shapes.{rate_le, order_le, frame_le}

-- a value read back from its bits
pub ruleset words = (kept, to_z-of_z)

-- the bits of a word are k where the number is
pub is_key : (w : Width) (z : ℤ) (k : ℕ) → k < 2 ^ hbits w → SFits w z → eqb (of_z w z) k ≡ eq_ℤ z (pos k)
is_key w z k hk f = go (eqb (of_z w z) k) refl
  where
    go : (t : Bool) → eqb (of_z w z) k ≡ t → t ≡ eq_ℤ z (pos k)
    go true e = sym (is w z k hk f (eqb-true (of_z w z) k e))
    go false e = sym (isnt w z k (eqb-false (of_z w z) k e))

-- lengths fit a word
pub small_rate : (k : ℕ) (z : ℤ) → k ≤ 20 → k * rate_of z < 2147483648
small_rate k z h = omega (arith, mul-le-mul h (rate_le z))

pub small : (z : ℤ) → rate_of z < 2147483648
small z = omega (arith, rate_le z)

pub small_frame : (z n : ℤ) → 5 * rate_of z * count_of n < 2147483648
small_frame z n = omega (arith, frame_le z n)

pub small_order : (r : ℕ) → order_of r < 2147483648
small_order r = omega (arith, order_le r)

-- a lag in Q8
pub lag_q8 : (k : ℕ) (z : ℤ) → k ≤ 18 → wrap32 (pos (256 * (k * rate_of z))) ≡ pos (256 * k * rate_of z)
lag_q8 k z h =
    let b = mul-le-mul h (rate_le z) in
    wrap_id {w = w32} {z = pos (256 * (k * rate_of z))} (record { sfits = omega arith }) ∙ ap pos (sym (mul_assoc 256 k (rate_of z)))
