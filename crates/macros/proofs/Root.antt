-- The start of the square root.
use Prim.Native.Nat.{suc, ◌/◌, ◌%◌, ◌^◌, ◌≤◌}
use mathlib.Core.Path.{◌≡◌, sym}
use native.Mathlib.Omega.{arith}
use lib.IntN.{ℤ, pos, negsuc, nat_abs, pos-ne-negsuc}
use Rattle.word.specs.Int.{floor_div, mod_ℤ}

pub half_of : (z : ℤ) → z ≡ pos (nat_abs z) → nat_abs z ≤ 32 → mod_ℤ (floor_div z 2) 32 ≡ nat_abs z / 2
half_of (pos n) e h = omega arith
half_of (negsuc n) e h = absurd (pos-ne-negsuc (suc n) n (sym e))

pub odd_of : (z : ℤ) → z ≡ pos (nat_abs z) → nat_abs z ≤ 32 → mod_ℤ z (2 ^ 32) % 2 ≡ nat_abs z % 2
odd_of (pos n) e h = omega arith
odd_of (negsuc n) e h = absurd (pos-ne-negsuc (suc n) n (sym e))
