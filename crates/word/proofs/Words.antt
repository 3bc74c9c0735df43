-- Machine words and the integers modulo a power of two, over every width.
use Prim.Native.Nat.{ℕ, suc, ◌+◌, ◌-◌, ◌*◌, ◌/◌, ◌%◌, ◌^◌, ◌<◌, ◌≤◌}
use mathlib.Core.Path.{◌≡◌, refl, sym, ap, ◌∙◌, subst}
use mathlib.Core.Bool.{Bool, true, false, cond}
use native.Mathlib.Omega.{arith}
use native.Mathlib.Nat.{mod-eq_of_lt, mul-mod_left, mul-le-mul_right, lt_of_lt_of_le}
use borrow.Author.Tests.{lt-ltb, le-ltb, ltb-true, ltb-false, eqb-true, eqb-false}
use lib.Arith.{comp_comp}
use lib.Bits.{bit_and, and_mask}
use lib.Dec.{T, eqb, ltb, leb, leb→le, le→leb}
use lib.IntN.{ℤ, pos, negsuc, neg_ℤ, ◌+ℤ◌, ◌*ℤ◌}
use lib.Pow.{pow_pos, pow_mono, pow-add, shl_lt, shl-shr, shr_lt, split, high, low, mod-pow-add, mod-mod-pow}
use lib.Signed.{mag, shr_z}
use mir.Syntax.{Width, w32}
use mir.Val.{bool_byte, bits, to_z, of_z, SFits, hbits}
use mir.ValLaws.{half_full}
use mir.Facts.{to_z_pos, to_z-of_z, sfits_widen}
use Rattle.std.specs.Int.{int_wrap}
use Rattle.std.proofs.lemmas.Int.{SFits-int_wrap, int_wrap_fits, int_wrap-add_left, int_wrap-add_right, int_wrap-mul_left, int_wrap-mul_right}
use Rattle.word.specs.Int.{eq_ℤ, mod_ℤ, wrap}
use Rattle.word.proofs.Mod.{mod_ℤ_lt, mod_mul_l}
use Rattle.word.proofs.Names.{wrap_is}
use Rattle.word.proofs.Order.{eq_ℤ_refl, eq_ℤ_ne}

-- ---- a value read back from its bits
pub kept : (w : Width) (z : ℤ) → mag z < 2 ^ hbits w → to_z w (of_z w z) ≡ z
kept w z h = to_z-of_z (record { sfits = h })

-- what a call gave, read back from its bits
pub got : (w : Width) {z v : ℤ} → mag z < 2 ^ hbits w → z ≡ v → to_z w (of_z w z) ≡ v
got w {z} h e = kept w z h ∙ e

-- x, which is y and fits
pub back : {w : Width} {x y : ℤ} → SFits w y → x ≡ y → to_z w (of_z w x) ≡ y
back h p = rw p (to_z-of_z h)

-- and it fits another word if y does
pub back_fits : {w w' : Width} {x y : ℤ} → SFits w y → SFits w' y → x ≡ y → SFits w' (to_z w (of_z w x))
back_fits h k p = rw (back h p) k

-- yes and no as numbers
pub bool_number : (b : Bool) → pos (bool_byte b) ≡ cond b (pos 1) (pos 0)
bool_number true = refl
bool_number false = refl

-- equal bits are equal numbers
pub eq_words : (w : Width) (a b : ℤ) → SFits w a → SFits w b → eqb (of_z w a) (of_z w b) ≡ eq_ℤ a b
eq_words w a b h k = go (eqb (of_z w a) (of_z w b)) refl
  where
    go : (t : Bool) → eqb (of_z w a) (of_z w b) ≡ t → t ≡ eq_ℤ a b
    go true e =
        let p : a ≡ b = sym (to_z-of_z h) ∙ ap (to_z w) (eqb-true (of_z w a) (of_z w b) e) ∙ to_z-of_z k in
        rw p (sym (eq_ℤ_refl b))
    go false e = sym (eq_ℤ_ne a b (λ p. eqb-false (of_z w a) (of_z w b) e (ap (of_z w) p)))

-- ---- the low bits of a word
-- the complement of n in j + k bits, in the low k of them
comp_low : (j k n : ℕ) → n < 2 ^ (j + k) → (2 ^ (j + k) - suc n) % 2 ^ k ≡ 2 ^ k - suc (n % 2 ^ k)
comp_low j k n h =
    let q = n / 2 ^ k in
    let r : n % 2 ^ k < 2 ^ k = mod_ℤ_lt (pos n) (2 ^ k) (pow_pos k) in
    let b : suc q ≤ 2 ^ j = shr_lt j k h in
    let m : (2 ^ j - suc q + suc q) * 2 ^ k ≡ 2 ^ (j + k) = ap (λ (x : ℕ). x * 2 ^ k) (omega arith) ∙ sym (pow-add 2 j k) in
    let e : 2 ^ (j + k) - suc n ≡ (2 ^ j - suc q) * 2 ^ k + (2 ^ k - suc (n % 2 ^ k)) = omega (arith, split n k) in
    rw e (low (2 ^ j - suc q) k (omega arith))

pub low_bits : (w : Width) (j k : ℕ) (z : ℤ) → bits w ≡ j + k → SFits w z → of_z w z % 2 ^ k ≡ mod_ℤ z (2 ^ k)
low_bits w j k (pos n) e h = refl
low_bits w j k (negsuc n) e h = rw e (comp_low j k n (subst (λ (b : ℕ). n < 2 ^ b) e (half_full w h.sfits)))

-- what a shift amount keeps of a word
pub amount : (w : Width) (j k : ℕ) (z : ℤ) → bits w ≡ j + k → SFits w z → bit_and (of_z w z) (2 ^ k - 1) ≡ mod_ℤ z (2 ^ k)
amount w j k z e h = and_mask (of_z w z) k ∙ low_bits w j k z e h

pub wrap-fits : (w : Width) (z : ℤ) → SFits w (wrap w z)
wrap-fits w z = subst (SFits w) (wrap_is w z) (SFits-int_wrap w z)

-- the low word of two, by a shift to the left and back
module _ (w w' : Width) (eb : bits w' ≡ bits w + bits w) (eh : hbits w' ≡ hbits w + bits w) where
  mul-mod : (n : ℕ) → (n * 2 ^ bits w) % 2 ^ bits w' ≡ (n % 2 ^ bits w) * 2 ^ bits w
  mul-mod n =
      let K = bits w in
      rw (eb, mod-pow-add (n * 2 ^ K) K K, shl-shr n K, mul-mod_left n (2 ^ K)) (omega arith)

  shift_back : (m : ℕ) → m < 2 ^ bits w → shr_z (to_z w' (m * 2 ^ bits w)) (2 ^ bits w) ≡ to_z w m
  shift_back m h = go (ltb m (2 ^ hbits w)) refl
    where
      go : (b : Bool) → ltb m (2 ^ hbits w) ≡ b → shr_z (to_z w' (m * 2 ^ bits w)) (2 ^ bits w) ≡ to_z w m
      go true e =
          let l : m * 2 ^ bits w < 2 ^ hbits w' = rw eh (shl_lt (hbits w) (bits w) (ltb-true m (2 ^ hbits w) e)) in
          rw (e, lt-ltb (m * 2 ^ bits w) (2 ^ hbits w') l) (ap pos (shl-shr m (bits w)))
      go false e =
          let K = bits w in
          let l : 2 ^ hbits w' ≤ m * 2 ^ K = rw (eh, pow-add 2 (hbits w) K) (omega (arith, mul-le-mul_right (2 ^ K) (ltb-false m (2 ^ hbits w) e))) in
          let p : (2 ^ K - suc m + suc m) * 2 ^ K ≡ 2 ^ (K + K) = ap (λ (x : ℕ). x * 2 ^ K) (omega arith) ∙ sym (pow-add 2 K K) in
          let d : 2 ^ bits w' - suc (m * 2 ^ K) ≡ (2 ^ K - suc m) * 2 ^ K + (2 ^ K - 1) = rw eb (omega (arith, pow_pos K)) in
          rw (e, le-ltb (m * 2 ^ K) (2 ^ hbits w') l, d) (ap negsuc (high (2 ^ K - suc m) K (omega (arith, pow_pos K))))

  pub low_shift : (z : ℤ) → SFits w' z → shr_z (to_z w' ((of_z w' z * 2 ^ bits w) % 2 ^ bits w')) (2 ^ bits w) ≡ wrap w z
  unfolding wrap
  low_shift z h =
      rw (mul-mod (of_z w' z), low_bits w' (bits w) (bits w) z eb h) (shift_back (mod_ℤ z (2 ^ bits w)) (mod_ℤ_lt z (2 ^ bits w) (pow_pos (bits w))))

  wrap-widens : (z : ℤ) → SFits w' (wrap w z)
  wrap-widens z = sfits_widen (rw eh (le→leb (hbits w) (hbits w + bits w) (omega arith))) (wrap-fits w z)

  pub low_fits : (z : ℤ) → SFits w' z → SFits w (to_z w' (of_z w' (shr_z (to_z w' ((of_z w' z * 2 ^ bits w) % 2 ^ bits w')) (2 ^ bits w))))
  low_fits z h = back_fits (wrap-widens z) (wrap-fits w z) (low_shift z h)

  pub low-back : (z : ℤ) → SFits w' z → to_z w (of_z w (to_z w' (of_z w' (shr_z (to_z w' ((of_z w' z * 2 ^ bits w) % 2 ^ bits w')) (2 ^ bits w))))) ≡ wrap w z
  low-back z h = back (wrap-fits w z) (back (wrap-widens z) (low_shift z h))

-- ---- laws of wrap
mod_bits_of : (w : Width) (z : ℤ) → SFits w z → mod_ℤ z (2 ^ bits w) ≡ of_z w z
mod_bits_of w (pos n) h = mod-eq_of_lt (half_full w h.sfits)
mod_bits_of w (negsuc n) h = ap (λ (k : ℕ). 2 ^ bits w - suc k) (mod-eq_of_lt (half_full w h.sfits))

-- a number that fits is kept
pub wrap_id : {w : Width} {z : ℤ} → SFits w z → wrap w z ≡ z
wrap_id {w} {z} h = sym (wrap_is w z) ∙ int_wrap_fits w z h

-- the bits n, read as signed, are n modulo the word
mod-to_z : (w : Width) (n : ℕ) → n < 2 ^ bits w → mod_ℤ (to_z w n) (2 ^ bits w) ≡ n
mod-to_z w n h = go (ltb n (2 ^ hbits w)) refl
  where
    go : (b : Bool) → ltb n (2 ^ hbits w) ≡ b → mod_ℤ (to_z w n) (2 ^ bits w) ≡ n
    go true e = rw e (mod-eq_of_lt h)
    go false e =
        rw (e, mod-eq_of_lt {n = 2 ^ bits w - suc n} {m = 2 ^ bits w} (omega arith)) (comp_comp h)

pub mod-wrap : (w : Width) (z : ℤ) → mod_ℤ (wrap w z) (2 ^ bits w) ≡ mod_ℤ z (2 ^ bits w)
unfolding wrap
mod-wrap w z = mod-to_z w (mod_ℤ z (2 ^ bits w)) (mod_ℤ_lt z (2 ^ bits w) (pow_pos (bits w)))

mod_low : (j k : ℕ) (z : ℤ) → mod_ℤ z (2 ^ k) ≡ mod_ℤ z (2 ^ (j + k)) % 2 ^ k
mod_low j k (pos n) = sym (mod-mod-pow n j k)
mod_low j k (negsuc n) =
    ap (λ (x : ℕ). 2 ^ k - suc x) (sym (mod-mod-pow n j k))
    ∙ sym (comp_low j k (n % 2 ^ (j + k)) (mod_ℤ_lt (pos n) (2 ^ (j + k)) (pow_pos (j + k))))

-- the low k bits of a word are those of the number
pub mod_wrap_low : (w : Width) (j k : ℕ) (z : ℤ) → bits w ≡ j + k → mod_ℤ (wrap w z) (2 ^ k) ≡ mod_ℤ z (2 ^ k)
mod_wrap_low w j k z e =
    let m : mod_ℤ (wrap w z) (2 ^ (j + k)) ≡ mod_ℤ z (2 ^ (j + k)) = subst (λ (b : ℕ). mod_ℤ (wrap w z) (2 ^ b) ≡ mod_ℤ z (2 ^ b)) e (mod-wrap w z) in
    mod_low j k (wrap w z) ∙ ap (λ (n : ℕ). n % 2 ^ k) m ∙ sym (mod_low j k z)

-- as the amount of a shift of 32 bits, and of 64
pub mod_wrap_32 : (z : ℤ) → mod_ℤ (wrap w32 z) 32 ≡ mod_ℤ z 32
mod_wrap_32 z = mod_wrap_low w32 27 5 z refl

pub mod_wrap_64 : (z : ℤ) → mod_ℤ (wrap w32 z) 64 ≡ mod_ℤ z 64
mod_wrap_64 z = mod_wrap_low w32 26 6 z refl

-- equal remainders give equal words
pub wrap_cong : (w : Width) (a b : ℤ) → mod_ℤ a (2 ^ bits w) ≡ mod_ℤ b (2 ^ bits w) → wrap w a ≡ wrap w b
unfolding wrap
wrap_cong w a b e = ap (to_z w) e

pub wrap-wrap : (w : Width) (a : ℤ) → wrap w (wrap w a) ≡ wrap w a
wrap-wrap w a = wrap_id (wrap-fits w a)

-- numbers that the library wraps alike
same_wrap : (w : Width) (y z : ℤ) → int_wrap w y ≡ int_wrap w z → wrap w y ≡ wrap w z
same_wrap w y z e = sym (wrap_is w y) ∙ e ∙ wrap_is w z

-- a wrap inside a sum or a product may go
pub wrap_add_l : (w : Width) (a b : ℤ) → wrap w (wrap w a +ℤ b) ≡ wrap w (a +ℤ b)
wrap_add_l w a b = same_wrap w _ _ (ap (λ (x : ℤ). int_wrap w (x +ℤ b)) (sym (wrap_is w a)) ∙ int_wrap-add_left w a b)

pub wrap_add_r : (w : Width) (a b : ℤ) → wrap w (a +ℤ wrap w b) ≡ wrap w (a +ℤ b)
wrap_add_r w a b = same_wrap w _ _ (ap (λ (x : ℤ). int_wrap w (a +ℤ x)) (sym (wrap_is w b)) ∙ int_wrap-add_right w a b)

pub wrap_mul_l : (w : Width) (a b : ℤ) → wrap w (wrap w a *ℤ b) ≡ wrap w (a *ℤ b)
wrap_mul_l w a b = same_wrap w _ _ (ap (λ (x : ℤ). int_wrap w (x *ℤ b)) (sym (wrap_is w a)) ∙ int_wrap-mul_left w a b)

pub wrap_mul_r : (w : Width) (a b : ℤ) → wrap w (a *ℤ wrap w b) ≡ wrap w (a *ℤ b)
wrap_mul_r w a b = same_wrap w _ _ (ap (λ (x : ℤ). int_wrap w (a *ℤ x)) (sym (wrap_is w b)) ∙ int_wrap-mul_right w a b)

minus_one : (a : ℤ) → a *ℤ negsuc 0 ≡ neg_ℤ a
minus_one (pos n) =
    let e : n * 1 ≡ n = omega arith in
    ap (λ (k : ℕ). neg_ℤ (pos k)) e
minus_one (negsuc n) = ap pos (omega arith)

pub wrap_neg : (w : Width) (a : ℤ) → wrap w (neg_ℤ (wrap w a)) ≡ wrap w (neg_ℤ a)
wrap_neg w a =
    ap (wrap w) (sym (minus_one (wrap w a))) ∙ wrap_mul_l w a (negsuc 0) ∙ ap (wrap w) (minus_one a)

-- ---- shifts
-- what a shift to the left leaves in a word
pub shl_back : (w : Width) (z : ℤ) (k : ℕ) → SFits w z → to_z w ((of_z w z * k) % 2 ^ bits w) ≡ wrap w (z *ℤ pos k)
unfolding wrap
shl_back w z k h =
    ap (to_z w) (ap (λ (n : ℕ). (n * k) % 2 ^ bits w) (sym (mod_bits_of w z h)) ∙ sym (mod_mul_l z (pos k) (2 ^ bits w) (pow_pos (bits w))))

below : (w : Width) (k : ℕ) (z : ℤ) → T (leb k (hbits w)) → mod_ℤ z (2 ^ k) < 2 ^ hbits w
below w k z t =
    lt_of_lt_of_le (mod_ℤ_lt z (2 ^ k) (pow_pos k)) (pow_mono {i = k} {j = hbits w} (leb→le k (hbits w) t))

-- the low k bits of a word, as a number of a word w'
pub low_word : (w w' : Width) (j k : ℕ) (z : ℤ) → bits w ≡ j + k → T (leb k (hbits w')) → SFits w z → to_z w' (bit_and (of_z w z) (2 ^ k - 1)) ≡ pos (mod_ℤ z (2 ^ k))
low_word w w' j k z e t h =
    rw (amount w j k z e h)
    (to_z_pos w' {n = mod_ℤ z (2 ^ k)} (below w' k z t))
