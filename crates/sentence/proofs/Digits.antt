-- The decimal digits of a number.
use Prim.Native.Nat.{ℕ, zero, suc, ◌+◌, ◌/◌, ◌%◌, ◌^◌, ◌<◌, ◌≤◌}
use mathlib.Core.Path.{◌≡◌, refl, ap, ◌∙◌}
use mathlib.Core.Bool.{Bool, true, false, cond}
use mathlib.Core.List.{List, [], ◌∷◌, ◌++◌}
use native.Mathlib.Omega.{arith}
use native.Mathlib.Nat.{not-suc-le-zero, pow-suc}
use borrow.Author.Tests.{ltb-true, ltb-false, lt-ltb, le-ltb}
use lib.Dec.{ltb}
use lib.IntN.{ℤ, pos, negsuc, nat_abs}
use lib.ListN.{length, length-append}
use lib.Signed.{lt_z}
use Rattle.sentence.specs.Sentence.{digits, decimal, signed}

-- any bound above n gives its digits
digits_same : (f g n : ℕ) → n < f → n < g → digits f n ≡ digits g n
unfolding digits
digits_same zero g n h k = absurd (not-suc-le-zero h)
digits_same (suc f) zero n h k = absurd (not-suc-le-zero k)
digits_same (suc f) (suc g) n h k = go (ltb n 10) refl (digits_same f g (n / 10))
  where
    go : (b : Bool) → ltb n 10 ≡ b → (n / 10 < f → n / 10 < g → digits f (n / 10) ≡ digits g (n / 10)) → cond b ((48 + n) ∷ []) (digits f (n / 10) ++ (48 + n % 10) ∷ []) ≡ cond b ((48 + n) ∷ []) (digits g (n / 10) ++ (48 + n % 10) ∷ [])
    go true e ih = refl
    go false e ih =
        let l = ltb-false n 10 e in
        ap (λ (xs : List ℕ). xs ++ (48 + n % 10) ∷ []) (ih (omega arith) (omega arith))

pub decimal-one : (n : ℕ) → n < 10 → decimal n ≡ (48 + n) ∷ []
unfolding decimal digits
decimal-one n h = rw (lt-ltb n 10 h) refl

pub decimal-more : (n : ℕ) → 10 ≤ n → decimal n ≡ decimal (n / 10) ++ (48 + n % 10) ∷ []
unfolding decimal digits
decimal-more n h =
    rw (le-ltb n 10 h)
    (ap (λ (xs : List ℕ). xs ++ (48 + n % 10) ∷ []) (digits_same n (suc (n / 10)) (n / 10) (omega arith) (omega arith)))

pub length_more : (n : ℕ) → 10 ≤ n → length (decimal n) ≡ length (decimal (n / 10)) + 1
length_more n h = ap length (decimal-more n h) ∙ length-append (decimal (n / 10)) _

pub length-decimal : (k n : ℕ) → n < 10 ^ suc k → length (decimal n) ≤ suc k
length-decimal zero n h = omega (arith, ap length (decimal-one n h))
length-decimal (suc k) n h = go (ltb n 10) refl (length-decimal k (n / 10) (omega (arith, pow-suc 10 (suc k))))
  where
    go : (b : Bool) → ltb n 10 ≡ b → length (decimal (n / 10)) ≤ suc k → length (decimal n) ≤ suc (suc k)
    go true e ih = omega (arith, ap length (decimal-one n (ltb-true n 10 e)))
    go false e ih = omega (arith, length_more n (ltb-false n 10 e))

pub signed_below : (z : ℤ) → lt_z z (pos 0) ≡ true → signed z ≡ 45 ∷ decimal (nat_abs z)
unfolding signed
signed_below (pos n) e = absurd (not-suc-le-zero (ltb-true n 0 e))
signed_below (negsuc n) e = refl

pub signed_above : (z : ℤ) → lt_z z (pos 0) ≡ false → signed z ≡ decimal (nat_abs z)
unfolding signed
signed_above (pos n) e = refl
signed_above (negsuc n) e = cc
