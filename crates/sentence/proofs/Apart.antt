-- Each sentence can be read back, with or without zeros behind it.
use Prim.Native.Nat.{ℕ, zero, suc, ◌+◌, ◌-◌, ◌*◌, ◌/◌, ◌%◌, ◌<◌, ◌≤◌}
use mathlib.Core.Path.{◌≡◌, refl, sym, ap, ◌∙◌}
use mathlib.Core.Bool.{Bool, true, false, cond}
use mathlib.Core.List.{List, [], ◌∷◌, ◌++◌, append-nil, append_assoc}
use native.Mathlib.Omega.{arith}
use native.Mathlib.Nat.{not-suc-le-zero}
use borrow.Author.Tests.{ltb-false, ne_eqb}
use lib.Dec.{ltb, eqb}
use lib.IntN.{ℤ, pos, negsuc}
use lib.ListN.{length, get_or, drop, replicate}
use Rattle.std.specs.Prelude.{Ok, Err}
use Rattle.stability.specs.Stability.{Stability, answer_number, answer_value}
use Rattle.stability.specs.declared.Unstable.TheVariants.{Sum, Coefficient, Gain, Overflow}
use Rattle.sentence.specs.Sentence.{digits, decimal, signed, words, number, sentence, filled, sentence_of}
use Rattle.sentence.specs.Apart.{NoTwo}

-- the number that digits spell, after v, up to a zero byte
value_from : ℕ → List ℕ → ℕ
value_from v [] = v
value_from v (b ∷ bs) = cond (eqb b 0) v (value_from (v * 10 + (b - 48)) bs)

digit : (v d : ℕ) (bs : List ℕ) → value_from v ((48 + d) ∷ bs) ≡ value_from (v * 10 + d) bs
unfolding value_from
digit v d bs =
    rw (ne_eqb (48 + d) 0 (λ e. omega arith))
    (ap (λ (n : ℕ). value_from (v * 10 + n) bs) (omega arith))

spelt : (f n : ℕ) (bs : List ℕ) → n < f → value_from 0 (digits f n ++ bs) ≡ value_from n bs
unfolding digits
spelt zero n bs h = absurd (not-suc-le-zero h)
spelt (suc f) n bs h = go (ltb n 10) refl (spelt f (n / 10) ((48 + n % 10) ∷ bs))
  where
    go : (b : Bool) → ltb n 10 ≡ b → (n / 10 < f → value_from 0 (digits f (n / 10) ++ (48 + n % 10) ∷ bs) ≡ value_from (n / 10) ((48 + n % 10) ∷ bs)) → value_from 0 (cond b ((48 + n) ∷ []) (digits f (n / 10) ++ (48 + n % 10) ∷ []) ++ bs) ≡ value_from n bs
    go true e ih = digit 0 n bs ∙ ap (λ (m : ℕ). value_from m bs) (omega arith)
    go false e ih =
        let l = ltb-false n 10 e in
        ap (value_from 0) (append_assoc (digits f (n / 10)) ((48 + n % 10) ∷ []) bs)
        ∙ ih (omega arith) ∙ digit (n / 10) (n % 10) bs ∙ ap (λ (m : ℕ). value_from m bs) (omega arith)

ended : (n k : ℕ) → value_from n (replicate k 0) ≡ n
unfolding value_from
ended n zero = refl
ended n (suc k) = refl

decimal-back : (n k : ℕ) → value_from 0 (decimal n ++ replicate k 0) ≡ n
unfolding decimal
decimal-back n k = spelt (suc n) n (replicate k 0) (omega arith) ∙ ended n k

-- digits begin with no minus sign
first-digit : (f n : ℕ) (bs : List ℕ) → n < f → 48 ≤ get_or (digits f n ++ bs) 0 0
unfolding digits
first-digit zero n bs h = absurd (not-suc-le-zero h)
first-digit (suc f) n bs h = go (ltb n 10) refl (first-digit f (n / 10) ((48 + n % 10) ∷ bs))
  where
    go : (b : Bool) → ltb n 10 ≡ b → (n / 10 < f → 48 ≤ get_or (digits f (n / 10) ++ (48 + n % 10) ∷ bs) 0 0) → 48 ≤ get_or (cond b ((48 + n) ∷ []) (digits f (n / 10) ++ (48 + n % 10) ∷ []) ++ bs) 0 0
    go true e ih = omega arith
    go false e ih =
        let l = ltb-false n 10 e in
        rw (append_assoc (digits f (n / 10)) ((48 + n % 10) ∷ []) bs) (ih (omega arith))

first_decimal : (n k : ℕ) → 48 ≤ get_or (decimal n ++ replicate k 0) 0 0
unfolding decimal
first_decimal n k = first-digit (suc n) n (replicate k 0) (omega arith)

-- a signed number read back
negated : ℕ → ℤ
negated zero = pos 0
negated (suc n) = negsuc n

signed_value : List ℕ → ℤ
signed_value bs = cond (eqb (get_or bs 0 0) 45) (negated (value_from 0 (drop 1 bs))) (pos (value_from 0 bs))

signed_back : (z : ℤ) (k : ℕ) → signed_value (signed z ++ replicate k 0) ≡ z
unfolding signed signed_value negated
signed_back (pos n) k =
    rw (ne_eqb (get_or (decimal n ++ replicate k 0) 0 0) 45 (λ e. absurd (omega (arith, first_decimal n k)))) (ap pos (decimal-back n k))
signed_back (negsuc n) k = rw (decimal-back (suc n) k) refl

-- a sentence read back: by its first letter, and by the one behind "unstable, "
reading : ℕ → ℕ → List ℕ → Stability
reading first eleventh text =
    cond (eqb first 115) (Ok (signed_value (drop 21 text)))
    (cond (eqb eleventh 115) (Err Sum)
    (cond (eqb eleventh 99) (Err (Coefficient (value_from 0 (drop 40 text))))
    (cond (eqb eleventh 103) (Err (Gain (value_from 0 (drop 33 text)))) (Err (Overflow (value_from 0 (drop 27 text)))))))

abbrev read : List ℕ → Stability
read text = reading (get_or text 0 0) (get_or text 10 0) text

read_back : (s : Stability) (k : ℕ) → read (sentence s ++ replicate k 0) ≡ s
unfolding sentence words number reading
read_back (Ok g) k = λ i. Ok (signed_back g k i)
read_back (Err Sum) k = refl
read_back (Err (Coefficient n)) k = λ i. Err (Coefficient (decimal-back n k i))
read_back (Err (Gain n)) k = λ i. Err (Gain (decimal-back n k i))
read_back (Err (Overflow n)) k = λ i. Err (Overflow (decimal-back n k i))

plain_back : (s : Stability) → read (sentence s) ≡ s
plain_back s = ap read (sym (append-nil (sentence s))) ∙ read_back s 0

pub no_two : NoTwo
unfolding sentence_of filled
no_two = (
  (λ s t e. sym (plain_back s) ∙ ap read e ∙ plain_back t),
  (λ s t e. sym (read_back s (64 - length (sentence s))) ∙ ap read e ∙ read_back t (64 - length (sentence t))),
)

-- the number that a sentence tells is the answer's value; the sum's tells none
pub number_is : (s : Stability) → (answer_number s ≡ 1 → ⊥) → number s ≡ signed (answer_value s)
unfolding answer_number answer_value number signed
number_is (Ok g) n = refl
number_is (Err Sum) n = absurd (n refl)
number_is (Err (Coefficient k)) n = refl
number_is (Err (Gain k)) n = refl
number_is (Err (Overflow k)) n = refl
