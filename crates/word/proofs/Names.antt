-- The standard library's words for what ours say.
use Prim.Native.Nat.{ℕ, suc, ◌+◌, ◌-◌, ◌*◌, ◌%◌, ◌^◌, ◌<◌}
use mathlib.Core.Path.{◌≡◌, refl, sym, ap, ◌∙◌}
use native.Mathlib.Omega.{arith}
use native.Mathlib.Nat.{mod-eq_of_lt}
use lib.IntN.{ℤ, pos, negsuc, nat_abs, neg_ℤ, ◌+ℤ◌, ◌-ℤ◌, ◌*ℤ◌}
use lib.Signed.{◌≤ℤ◌}
use mir.Syntax.{Width, w16, w32}
use mir.Val.{bits, to_z, of_z, SFits}
use mir.ValLaws.{half_full, pow-bits}
use Rattle.std.specs.Int.{int_min, int_max, int_wrap, int_wrapping_neg, saturate_to_bits, saturate_signed}
use Rattle.std.proofs.lemmas.Int.{ints, wrapping_add_is, wrapping_sub_is, wrapping_mul_is, wrapping_neg_is}
use Rattle.word.specs.Int.{wrap, min_ℤ, max_ℤ, clamp, sat16, sat32}

pub wrap_is : (w : Width) (z : ℤ) → int_wrap w z ≡ wrap w z
unfolding int_wrap wrap
wrap_is w (pos n) = refl
wrap_is w (negsuc n) = ap (to_z w) (omega arith)

-- the sum, the difference and the product of the bits of two words
pub add_is : (w : Width) (a b : ℤ) → SFits w a → SFits w b → to_z w ((of_z w a + of_z w b) % 2 ^ bits w) ≡ wrap w (a +ℤ b)
add_is w a b h k = wrapping_add_is w a b h k ∙ wrap_is w (a +ℤ b)

pub sub_is : (w : Width) (a b : ℤ) → SFits w a → SFits w b → to_z w ((of_z w a + (2 ^ bits w - of_z w b)) % 2 ^ bits w) ≡ wrap w (a -ℤ b)
sub_is w a b h k = wrapping_sub_is w a b h k ∙ wrap_is w (a -ℤ b)

pub mul_is : (w : Width) (a b : ℤ) → SFits w a → SFits w b → to_z w ((of_z w a * of_z w b) % 2 ^ bits w) ≡ wrap w (a *ℤ b)
mul_is w a b h k = wrapping_mul_is w a b h k ∙ wrap_is w (a *ℤ b)

pub neg_is : (w : Width) (a : ℤ) → SFits w a → int_wrapping_neg w a ≡ wrap w (neg_ℤ a)
neg_is w a h = wrapping_neg_is w a h ∙ wrap_is w (neg_ℤ a)

-- the bits n, read as signed
pub signed_is : (w : Width) (n : ℕ) → n < 2 ^ bits w → to_z w n ≡ wrap w (pos n)
unfolding wrap
signed_is w n h = ap (to_z w) (sym (mod-eq_of_lt h))

pub abs_is : (w : Width) (a : ℤ) → SFits w a → to_z w (nat_abs a) ≡ wrap w (pos (nat_abs a))
abs_is w (pos n) h = signed_is w n (half_full w h.sfits)
abs_is w (negsuc n) h = signed_is w (suc n) (omega (arith, h.sfits, pow-bits w))

pub min_is : (a b : ℤ) → int_min a b ≡ min_ℤ a b
unfolding min_ℤ
min_is a b = grind (arith, ints)

pub max_is : (a b : ℤ) → int_max a b ≡ max_ℤ a b
unfolding max_ℤ
max_is a b = refl

pub clamp_is : (low high z : ℤ) → low ≤ℤ high → int_max low (int_min z high) ≡ clamp low high z
unfolding clamp
clamp_is low high z h = grind (arith, ints)

saturate_is : (h : ℕ) (z : ℤ) → saturate_to_bits h z ≡ clamp (negsuc (2 ^ h - 1)) (pos (2 ^ h - 1)) z
unfolding clamp
saturate_is h (pos n) = grind (arith, ints)
saturate_is h (negsuc n) = grind (arith, ints)

pub sat16_is : (z : ℤ) → saturate_signed w16 z ≡ sat16 z
sat16_is z = saturate_is 15 z

pub sat32_is : (z : ℤ) → saturate_signed w32 z ≡ sat32 z
sat32_is z = saturate_is 31 z
