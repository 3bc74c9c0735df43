-- The energy of up to 320 samples: nothing wraps, the energy stays below 2 ^ 29 and its shift is at most 10.
use Rattle.std.proofs.Common.{◌≡◌, ℕ, zero, suc, ◌+◌, ◌-◌, ◌*◌, ◌/◌, ◌%◌, ◌^◌, ◌<◌, ◌≤◌, Bool, true, false, ltb, List, [], length, get_or, drop, ℤ, pos, refl, ap, ◌∙◌, subst, le_trans, le_of_suc-le-suc, not-suc-le-zero, lt_of_lt_of_le, lt_of_le_of_lt, mul-le-mul_right, mod-lt, mod-eq_of_lt, mul-le-mul, pow-suc, arith, pow_pos, pow_mono, pow-add, shl_lt, shr-shr, ltb-false, ltb-true}
use Rattle.std.specs.Simd.{first_chunks}
use Rattle.std.proofs.lemmas.List.{get_or-take, get_or-drop}
use native.Mathlib.Nat.{lt_of_mul-lt-mul_left, mul-div-le}
use lib.Count.{count_leading_zeros, leading_top}
use lib.Pow.{split}
use Rattle.word.specs.Size.{Bounded}
use Rattle.word.proofs.Lists.{beyond}
use Rattle.macros.specs.Fixed.{clz32}
use Rattle.sigproc.specs.Energy.{square, pairs, energy_at, first_shift, energy_shift}

-- ---- the samples in pairs
pub energy_even : (x : List ℤ) (s : ℕ) → length x % 2 ≡ 0 → energy_at x s ≡ pairs x s (length x / 2)
unfolding energy_at
energy_even x s h = let e : (length x + 1) / 2 ≡ length x / 2 = omega arith in rw e

-- the last one alone
pub energy_odd : (x : List ℤ) (s : ℕ) → length x % 2 ≡ 1 → energy_at x s ≡ pairs x s (length x / 2) + square x (length x - 1) / 2 ^ s
unfolding energy_at pairs
energy_odd x s h =
    let m = length x / 2 in
    let e : (length x + 1) / 2 ≡ suc m = omega arith in
    let i : 2 * m ≡ length x - 1 = omega arith in
    let z : square x (2 * m + 1) ≡ 0 = rw (beyond x (2 * m + 1) (omega arith)) in
    let a : square x (length x - 1) + 0 ≡ square x (length x - 1) = omega arith in
    rw (e, z, i, a)

-- the samples of pair i
pub chunk_at : (x : List ℤ) (k i j : ℕ) → i < k → j < 2 → get_or (get_or (first_chunks 2 k x) i []) j (pos 0) ≡ get_or x (2 * i + j) (pos 0)
chunk_at x zero i j h l = absurd (not-suc-le-zero h)
chunk_at x (suc k) zero j h l = let e : j ≡ 2 * 0 + j = omega arith in get_or-take 2 x j (pos 0) l ∙ ap (λ (n : ℕ). get_or x n (pos 0)) e
chunk_at x (suc k) (suc i) j h l =
    let e : 2 + (2 * i + j) ≡ 2 * suc i + j = omega arith in
    chunk_at (drop 2 x) k i j (le_of_suc-le-suc h) l ∙ get_or-drop 2 x (2 * i + j) (pos 0) ∙ ap (λ (n : ℕ). get_or x n (pos 0)) e

-- each sample adds at most 2 ^ 30
pub more_le : (s p q A B : ℕ) → 2 ^ s * p ≤ A → q ≤ B → 2 ^ s * (p + q / 2 ^ s) ≤ A + B
more_le s p q A B h k = omega (arith, mul-div-le q (2 ^ s))

square_le : (x : List ℤ) → Bounded 32768 x → (i : ℕ) → square x i ≤ 2 ^ 30
square_le x h i = mul-le-mul (h i) (h i)

pairs_le : (x : List ℤ) (s m : ℕ) → Bounded 32768 x → 2 ^ s * pairs x s m ≤ 2 ^ 31 * m
unfolding pairs
pairs_le x s zero h = omega arith
pairs_le x s (suc m) h =
    let q = square x (2 * m) + square x (2 * m + 1) in
    omega (arith, more_le s (pairs x s m) q (2 ^ 31 * m) (2 ^ 31) (pairs_le x s m h) (omega (arith, square_le x h (2 * m), square_le x h (2 * m + 1))))

energy_le : (x : List ℤ) (s : ℕ) → Bounded 32768 x → 2 ^ s * energy_at x s ≤ 2 ^ 30 * length x
energy_le x s h = go (length x % 2) refl
  where
    m : ℕ
    m = length x / 2

    go : (r : ℕ) → length x % 2 ≡ r → 2 ^ s * energy_at x s ≤ 2 ^ 30 * length x
    go zero e = rw (energy_even x s e) (omega (arith, pairs_le x s m h))
    go (suc r) e =
        rw (energy_odd x s (omega arith))
        (omega (arith, more_le s (pairs x s m) _ (2 ^ 31 * m) (2 ^ 30) (pairs_le x s m h) (square_le x h (length x - 1))))

-- ---- another shift
pairs_down : (x : List ℤ) (s t m : ℕ) → pairs x s m ≤ (pairs x (s + t) m + m) * 2 ^ t
unfolding pairs
pairs_down x s t zero = omega arith
pairs_down x s t (suc m) =
    let q = square x (2 * m) + square x (2 * m + 1) in
    rw (← shr-shr q s t) (omega (arith, pairs_down x s t m, split (q / 2 ^ s) t, mod-lt (q / 2 ^ s) (pow_pos t)))

pairs_up : (x : List ℤ) (s t m : ℕ) → 2 ^ t * pairs x (s + t) m ≤ pairs x s m
unfolding pairs
pairs_up x s t zero = omega arith
pairs_up x s t (suc m) =
    let q = square x (2 * m) + square x (2 * m + 1) in
    rw (← shr-shr q s t) (omega (arith, pairs_up x s t m, mul-div-le (q / 2 ^ s) (2 ^ t)))

pub zeros-is : (n : ℕ) → n < 2 ^ 32 → count_leading_zeros 32 n ≡ clz32 (pos n)
unfolding clz32
zeros-is n h = rw (mod-eq_of_lt h)

-- the place of the highest bit
top : (n : ℕ) → 0 < n → n < 2 ^ 32 → (j : ℕ) × (clz32 (pos n) + suc j ≡ 32) × (2 ^ j ≤ n) × (n < 2 ^ suc j)
unfolding clz32
top n p h = rw (mod-eq_of_lt h) (leading_top 32 n p h)

exponent : (j k : ℕ) → 2 ^ j < 2 ^ k → j < k
exponent j k h = go (ltb j k) refl
  where
    go : (t : Bool) → ltb j k ≡ t → j < k
    go true e = ltb-true j k e
    go false e = absurd (omega (arith, pow_mono {i = k} {j = j} (ltb-false j k e)))

-- an estimate of k + 1 bits at the shift j leaves 29 bits
sized : (x : List ℤ) (j k : ℕ) → 1 ≤ length x → length x + energy_at x j < 2 ^ suc k → energy_at x (j + k - 28) < 2 ^ 29
unfolding energy_at
sized x j k least e = go (ltb 28 k) refl
  where
    m : ℕ
    m = (length x + 1) / 2

    go : (b : Bool) → ltb 28 k ≡ b → pairs x (j + k - 28) m < 2 ^ 29
    go true b =
        let g = ltb-true 28 k b in
        let t = k - 28 in
        let i : j + k - 28 ≡ j + t = omega arith in
        let p : 2 ^ suc k ≡ 2 ^ t * 2 ^ 29 = ap (λ (n : ℕ). 2 ^ n) (omega arith) ∙ pow-add 2 t 29 in
        rw i (lt_of_mul-lt-mul_left (2 ^ t) (omega (arith, pairs_up x j t m)))
    go false b =
        let g = ltb-false 28 k b in
        let s = j + k - 28 in
        let t = j - s in
        let i : s + t ≡ j = omega arith in
        let d : pairs x s m ≤ (pairs x j m + m) * 2 ^ t = subst (λ (n : ℕ). pairs x s m ≤ (pairs x n m + m) * 2 ^ t) i (pairs_down x s t m) in
        let w : (pairs x j m + m) * 2 ^ t ≤ (length x + pairs x j m) * 2 ^ t = mul-le-mul_right (2 ^ t) (omega arith) in
        lt_of_le_of_lt (le_trans d w) (lt_of_lt_of_le (shl_lt (suc k) t e) (pow_mono {i = suc k + t} {j = 29} (omega arith)))

-- what a first estimate within its samples' bound leads to
module _ (x : List ℤ) (least : 1 ≤ length x) (most : length x ≤ 320) (le : 2 ^ first_shift x * energy_at x (first_shift x) ≤ 2 ^ 30 * length x) where
  pub estimate : (first_shift x ≤ 8) × (length x + energy_at x (first_shift x) < 2 ^ 31)
  estimate =
      let f = top (length x) least (omega arith) in
      let j = f.0 in
      let a : first_shift x ≡ j = omega (arith, f.1) in
      let g = exponent j 9 (omega (arith, f.2)) in
      let l : 2 ^ j * energy_at x j ≤ 2 ^ 30 * length x = rw a at le in
      rw a (omega arith, lt_of_mul-lt-mul_left (2 ^ j) (omega (arith, f.3, pow-suc 2 j, mul-le-mul (le_trans f.2 most) most)))

  pub bounds : (energy_at x (energy_shift x) < 2 ^ 29) × (energy_shift x ≤ 10)
  unfolding energy_shift
  bounds =
      let p = estimate in
      let j = first_shift x in
      let g = top (length x + energy_at x j) (omega arith) (omega arith) in
      let k = g.0 in
      let a : j + 3 - clz32 (pos (length x + energy_at x j)) ≡ j + k - 28 = omega (arith, g.1) in
      let b = exponent k 31 (omega (arith, g.2)) in
      rw a (sized x j k least g.3, omega arith)

-- the energy of 16-bit samples and its shift
module _ (x : List ℤ) (h : Bounded 32768 x) (least : 1 ≤ length x) (most : length x ≤ 320) where
  pub energy_small : energy_at x (energy_shift x) < 2 ^ 29
  energy_small = (bounds x least most (energy_le x (first_shift x) h)).0

  pub shift_small : energy_shift x ≤ 10
  shift_small = (bounds x least most (energy_le x (first_shift x) h)).1
