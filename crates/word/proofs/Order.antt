-- Tests of signed words, the sign, minimum, maximum and limits.
use Prim.Native.Nat.{ℕ, ◌^◌, ◌<◌, ◌≤◌}
use mathlib.Core.Path.{◌≡◌, refl, sym, ap, ◌∙◌}
use mathlib.Core.Bool.{Bool, true, false, cond}
use native.Mathlib.Omega.{arith}
use native.Mathlib.Nat.{le_refl, not-suc-le-zero}
use borrow.Author.Tests.{ltb-true, ltb-false, eq-eqb, eqb-true}
use lib.IntN.{ℤ, pos, negsuc, nat_abs, neg_ℤ}
use lib.Signed.{mag, lt_z, le_z}
use mir.Syntax.{Width, w16, w32}
use mir.Val.{to_z, of_z, SFits, hbits}
use mir.ValLaws.{pow-bits}
use mir.Facts.{to_z-of_z}
use Rattle.word.specs.Int.{eq_ℤ, clamp, sat16, sat32}

-- ---- a test of two words is one of the numbers that they hold
pub lt_read : {w : Width} {a b : ℤ} {t : Bool} → SFits w a → SFits w b → lt_z (to_z w (of_z w a)) (to_z w (of_z w b)) ≡ t → lt_z a b ≡ t
lt_read h k e = rw (to_z-of_z h, to_z-of_z k) at e

pub lt_read_l : {w : Width} {a : ℤ} (b : ℤ) {t : Bool} → SFits w a → lt_z (to_z w (of_z w a)) b ≡ t → lt_z a b ≡ t
lt_read_l b h e = rw (to_z-of_z h) at e

pub lt_read_r : {w : Width} (a : ℤ) {b : ℤ} {t : Bool} → SFits w b → lt_z a (to_z w (of_z w b)) ≡ t → lt_z a b ≡ t
lt_read_r a h e = rw (to_z-of_z h) at e

pub le_read_l : {w : Width} {a : ℤ} (b : ℤ) {t : Bool} → SFits w a → le_z (to_z w (of_z w a)) b ≡ t → le_z a b ≡ t
le_read_l b h e = rw (to_z-of_z h) at e

-- any test of a number that was read back from its bits
pub tested : (w : Width) {b : Bool} (f : ℤ → Bool) (z : ℤ) → mag z < 2 ^ hbits w → f (to_z w (of_z w z)) ≡ b → f z ≡ b
tested w f z h e = sym (ap f (to_z-of_z {w = w} {z = z} (record { sfits = h }))) ∙ e

-- ---- equal bits are equal numbers
pub eq_ℤ_true : (a b : ℤ) → eq_ℤ a b ≡ true → a ≡ b
eq_ℤ_true (pos a) (pos b) e = ap pos (eqb-true a b e)
eq_ℤ_true (pos a) (negsuc b) e = let z : ◌≡◌ {A = ℕ} 0 1 = cc in absurd (omega arith)
eq_ℤ_true (negsuc a) (pos b) e = let z : ◌≡◌ {A = ℕ} 0 1 = cc in absurd (omega arith)
eq_ℤ_true (negsuc a) (negsuc b) e = ap negsuc (eqb-true a b e)

pub eq_ℤ_refl : (a : ℤ) → eq_ℤ a a ≡ true
eq_ℤ_refl (pos a) = eq-eqb a a refl
eq_ℤ_refl (negsuc a) = eq-eqb a a refl

pub eq_ℤ_ne : (a b : ℤ) → (a ≡ b → ⊥) → eq_ℤ a b ≡ false
eq_ℤ_ne a b h = go (eq_ℤ a b) refl
  where
    go : (t : Bool) → eq_ℤ a b ≡ t → t ≡ false
    go true e = absurd (h (eq_ℤ_true a b e))
    go false e = refl

-- a word whose bits are those of a number k that is not negative
pub key : (w : Width) (z : ℤ) (k : ℕ) → k < 2 ^ hbits w → SFits w z → of_z w z ≡ k → z ≡ pos k
key w (pos n) k hk f e = ap pos e
key w (negsuc n) k hk f e =
    let h = f.sfits in
    absurd (omega (arith, pow-bits w))

pub is : (w : Width) (z : ℤ) (k : ℕ) → k < 2 ^ hbits w → SFits w z → of_z w z ≡ k → eq_ℤ z (pos k) ≡ true
is w z k hk f e = rw (key w z k hk f e) (eq-eqb k k refl)

pub isnt : (w : Width) (z : ℤ) (k : ℕ) → (of_z w z ≡ k → ⊥) → eq_ℤ z (pos k) ≡ false
isnt w z k e = eq_ℤ_ne z (pos k) (λ p. e (ap (of_z w) p))

-- ---- the sign
pub abs_neg : (a : ℤ) → lt_z a (pos 0) ≡ true → pos (nat_abs a) ≡ neg_ℤ a
abs_neg (pos n) e = let k = ltb-true n 0 e in absurd (not-suc-le-zero k)
abs_neg (negsuc n) e = refl

-- ---- limits
-- neither below nor above
pub between : (B : ℕ) (z : ℤ) → lt_z z (negsuc B) ≡ false → lt_z (pos B) z ≡ false → mag z ≤ B
between B (pos n) l u = ltb-false B n u
between B (negsuc n) l u = ltb-false B n l

pub clamp_mag : (B : ℕ) (z : ℤ) → mag (clamp (negsuc B) (pos B) z) ≤ B
unfolding clamp
clamp_mag B z = low (lt_z z (negsuc B)) refl
  where
    high : (b : Bool) → lt_z z (negsuc B) ≡ false → lt_z (pos B) z ≡ b → mag (cond b (pos B) z) ≤ B
    high true l u = le_refl B
    high false l u = between B z l u

    low : (b : Bool) → lt_z z (negsuc B) ≡ b → mag (cond b (negsuc B) (cond (lt_z (pos B) z) (pos B) z)) ≤ B
    low true l = le_refl B
    low false l = high (lt_z (pos B) z) l refl

pub sat16-fits : (z : ℤ) → SFits w16 (sat16 z)
sat16-fits z = record { sfits = omega (arith, clamp_mag 32767 z) }

pub sat32-fits : (z : ℤ) → SFits w32 (sat32 z)
sat32-fits z = record { sfits = omega (arith, clamp_mag 2147483647 z) }

-- one of two numbers that fit, so the smaller and the larger
pub cond_fits : {w : Width} (t : Bool) {a b : ℤ} → SFits w a → SFits w b → SFits w (cond t a b)
cond_fits true h k = h
cond_fits false h k = k
