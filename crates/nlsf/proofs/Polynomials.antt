-- The polynomials of the lines, in an array of nine places.
use Prim.Native.Nat.{ℕ, zero, suc, ◌+◌, ◌-◌, ◌*◌, ◌/◌, ◌%◌, ◌<◌, ◌≤◌}
use mathlib.Core.Path.{◌≡◌, refl, ap, ◌∙◌}
use mathlib.Core.Logic.{◌⊎◌, inl, inr}
use mathlib.Core.Bool.{Bool, true, false, cond}
use mathlib.Core.List.{List, [], ◌∷◌, ◌++◌}
use native.Mathlib.Numerals.{add-one}
use native.Mathlib.Omega.{arith}
use borrow.Author.Tests.{ltb-true, ltb-false}
use lib.Dec.{ltb}
use lib.IntN.{ℤ, pos, neg_ℤ, ◌+ℤ◌, ◌-ℤ◌}
use lib.ListN.{length, get_or, set, take, drop, get_or-append}
use lib.Seq.{take_at, drop_at}
use Rattle.word.specs.Int.{wrap32}
use Rattle.word.specs.Tabulate.{tabulate}
use Rattle.word.proofs.Lists.{grow, length_snoc, tabulate_cong, length-tabulate}
use Rattle.nlsf.proofs.Parts.{front_at}
use Rattle.nlsf.specs.Lines.{poly_term, mirrored, times_factor, poly, even_term, odd_term, lpc_coefficient, coefficients_of, lpc_coefficients}

-- coefficient n from 2 on
pub term_at : (f : ℤ) (p : List ℤ) (n : ℕ) → 2 ≤ n → poly_term f (get_or p n (pos 0)) (get_or p (n - 2) (pos 0)) (get_or p (n - 1) (pos 0)) ≡ times_factor f p n
unfolding times_factor
term_at f p zero h = absurd (omega arith)
term_at f p (suc zero) h = absurd (omega arith)
term_at f p (suc (suc n)) h =
    let i : suc (suc n) - 2 ≡ n = omega arith in
    let j : suc (suc n) - 1 ≡ suc n = omega arith in
    rw (i, j) refl

-- it reads no place above n
pub term_front : (f : ℤ) (p r : List ℤ) (n j : ℕ) → n < j → j ≤ length p → times_factor f (take j p ++ r) n ≡ times_factor f p n
unfolding times_factor
term_front f p r zero j h l = front_at p r 0 j h l
term_front f p r (suc zero) j h l = rw (front_at p r 1 j h l)
term_front f p r (suc (suc n)) j h l =
    rw (front_at p r (suc (suc n)) j h l, front_at p r n j (omega arith) l, front_at p r (suc n) j (omega arith) l)

pub length-poly : (c : List ℤ) (s k : ℕ) → length (poly c s k) ≡ k + 2
unfolding poly
length-poly c s zero = refl
length-poly c s (suc k) = length-tabulate (k + 3) _ ∙ omega arith

-- one factor more, after the mirror image's coefficient was stored
pub poly-turn : (c z : List ℤ) (s k : ℕ) → k + 2 < length z → let p = set (poly c s k ++ drop (k + 2) z) (k + 2) (get_or (poly c s k) k (pos 0)) in
    tabulate (k + 3) (times_factor (get_or c (2 * k + 2 + s) (pos 0)) (take (k + 3) p)) ++ drop (k + 3) p ≡ poly c s (k + 1) ++ drop (k + 1 + 2) z
unfolding poly mirrored
poly-turn c z s k h =
    let q = poly c s k in
    let v = get_or q k (pos 0) in
    let l = length-poly c s k in
    let i : k + 2 - 2 ≡ k = omega arith in
    let j : k + 1 + 2 ≡ k + 3 = omega arith in
    let e : suc (k + 2) ≡ k + 3 = omega arith in
    let w : length (q ++ v ∷ []) ≡ k + 3 = length_snoc q v ∙ ap suc l ∙ e in
    rw (grow q z (k + 2) v l h, e, take_at (q ++ v ∷ []) (drop (k + 3) z) (k + 3) w, drop_at (q ++ v ∷ []) (drop (k + 3) z) (k + 3) w, j, add-one, l, i)

-- ---- the coefficients read the two polynomials alone
even_front : (p z : List ℤ) (k : ℕ) → k + 1 < length p → even_term (p ++ z) k ≡ even_term p k
unfolding even_term
even_front p z k h =
    rw (get_or-append p z (pos 0) (k + 1) h, get_or-append p z (pos 0) k (omega arith))

odd_front : (q z : List ℤ) (k : ℕ) → k + 1 < length q → odd_term (q ++ z) k ≡ odd_term q k
unfolding odd_term
odd_front q z k h =
    rw (get_or-append q z (pos 0) (k + 1) h, get_or-append q z (pos 0) k (omega arith))

pub coefficients-front : (p q z : List ℤ) (d : ℕ) → d % 2 ≡ 0 → length p ≡ d / 2 + 1 → length q ≡ d / 2 + 1 → tabulate d (lpc_coefficient (p ++ z) (q ++ z) d) ≡ tabulate d (lpc_coefficient p q d)
unfolding lpc_coefficient
coefficients-front p q z d e lp lq = tabulate_cong d _ _ (λ i h. go (ltb i (d / 2)) i h refl)
  where
    go : (b : Bool) (i : ℕ) → i < d → ltb i (d / 2) ≡ b
        → cond b (wrap32 (neg_ℤ (odd_term (q ++ z) i +ℤ even_term (p ++ z) i))) (wrap32 (odd_term (q ++ z) (d - 1 - i) -ℤ even_term (p ++ z) (d - 1 - i)))
        ≡ cond b (wrap32 (neg_ℤ (odd_term q i +ℤ even_term p i))) (wrap32 (odd_term q (d - 1 - i) -ℤ even_term p (d - 1 - i)))
    go true i h t =
        let k = ltb-true i (d / 2) t in
        rw (even_front p z i (omega arith), odd_front q z i (omega arith))
    go false i h t =
        let k = ltb-false i (d / 2) t in
        rw (even_front p z (d - 1 - i) (omega arith), odd_front q z (d - 1 - i) (omega arith))

-- what the two orders share
pub order_even : {d : ℕ} → (d ≡ 10) ⊎ (d ≡ 16) → (d % 2 ≡ 0) × (10 ≤ d) × (d ≤ 16)
order_even (inl e) = rw e (refl, omega arith, omega arith)
order_even (inr e) = rw e (refl, omega arith, omega arith)

pub length-coefficients : (lines : List ℤ) (d : ℕ) → length (lpc_coefficients lines d) ≡ d
unfolding lpc_coefficients coefficients_of
length-coefficients lines d = length-tabulate d _
