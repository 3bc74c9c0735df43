-- Integers: quotient and remainder that round down, what a signed word keeps of an integer, and the limits of a range.
use Rattle.std.specs.Prelude.{ℕ, suc, ◌-◌, ◌/◌, ◌%◌, ◌^◌, Bool, false, cond, eqb, ℤ, pos, negsuc}
use Rattle.std.specs.Int.Signed.{lt_z}
use Rattle.std.specs.Int.{Width, w16, w32, w64}
use mir.Val.{to_z, bits}

-- z divided by m, rounded down
abbrev pub floor_div : ℤ → ℕ → ℤ
floor_div (pos n) m = pos (n / m)
floor_div (negsuc n) m = negsuc (n / m)

-- z modulo m: from 0 to m - 1
abbrev pub mod_ℤ : ℤ → ℕ → ℕ
mod_ℤ (pos n) m = n % m
mod_ℤ (negsuc n) m = m - suc (n % m)

-- the low bits of z as a signed word of width w (document 01, "the low 32 bits")
unfoldable pub wrap : Width → ℤ → ℤ
wrap w z = to_z w (mod_ℤ z (2 ^ bits w))

abbrev pub wrap16 : ℤ → ℤ
wrap16 = wrap w16

abbrev pub wrap32 : ℤ → ℤ
wrap32 = wrap w32

abbrev pub wrap64 : ℤ → ℤ
wrap64 = wrap w64

-- a and b are the same number
abbrev pub eq_ℤ : ℤ → ℤ → Bool
eq_ℤ (pos a) (pos b) = eqb a b
eq_ℤ (pos a) (negsuc b) = false
eq_ℤ (negsuc a) (pos b) = false
eq_ℤ (negsuc a) (negsuc b) = eqb a b

-- the smaller of two numbers
unfoldable pub min_ℤ : ℤ → ℤ → ℤ
min_ℤ a b = cond (lt_z a b) a b

-- the larger of two numbers
unfoldable pub max_ℤ : ℤ → ℤ → ℤ
max_ℤ a b = cond (lt_z b a) a b

-- the number from low to high that is nearest to z (low, if low is above high and z below it)
unfoldable pub clamp : ℤ → ℤ → ℤ → ℤ
clamp low high z = cond (lt_z z low) low (cond (lt_z high z) high z)

-- the nearest number of 16 bits
abbrev pub sat16 : ℤ → ℤ
sat16 = clamp (negsuc 32767) (pos 32767)

-- the nearest number of 32 bits
abbrev pub sat32 : ℤ → ℤ
sat32 = clamp (negsuc 2147483647) (pos 2147483647)
