-- Differences of shifts that stop at 0, and the zeros above a number that is not negative.
use Prim.Native.Nat.{ℕ, zero, suc, ◌+◌, ◌-◌, ◌*◌, ◌%◌, ◌^◌, ◌<◌, ◌≤◌}
use mathlib.Core.Path.{◌≡◌, refl, ap, ◌∙◌}
use mathlib.Core.Bool.{Bool, true, false, cond}
use mathlib.Core.List.{List}
use native.Mathlib.Omega.{arith}
use native.Mathlib.Nat.{mod-eq_of_lt, pow-suc}
use borrow.Author.Tests.{lt-ltb, ltb-true, ltb-false}
use lib.Count.{count_leading_zeros, leading_length}
use lib.Dec.{ltb}
use lib.IntN.{ℤ, pos, negsuc, ◌-ℤ◌}
use lib.ListN.{length}
use lib.Pow.{pow_mono}
use Rattle.word.specs.Int.{wrap32, max_ℤ}
use Rattle.word.proofs.Parts.{P, N, sub_parts_ℤ}
use Rattle.word.proofs.Sizes.{difference_kept}
use Rattle.macros.specs.Fixed.{clz32}
use Rattle.sigproc.specs.Energy.{energy_shift}

-- no less than 0
above_zero : (z : ℤ) → max_ℤ z (pos 0) ≡ pos (P z)
unfolding max_ℤ
above_zero (pos zero) = refl
above_zero (pos (suc n)) = rw (lt-ltb 0 (suc n) (omega arith))
above_zero (negsuc n) = refl

part-is : (z : ℤ) (a b : ℕ) → P z + b ≡ N z + a → P z ≡ a - b
part-is (pos n) a b e = omega arith
part-is (negsuc n) a b e = omega arith

-- a shift less another, or 0
pub difference : (a b : ℕ) → a ≤ 32 → b ≤ 32 → max_ℤ (wrap32 (pos a -ℤ pos b)) (pos 0) ≡ pos (a - b)
difference a b h k =
    let z = pos a -ℤ pos b in
    ap (λ (x : ℤ). max_ℤ x (pos 0)) (difference_kept a b (omega arith) (omega arith)) ∙ above_zero z ∙ ap pos (part-is z a b (omega (arith, sub_parts_ℤ (pos a) (pos b))))

exact : (z : ℤ) (a b : ℕ) → b ≤ a → P z + b ≡ N z + a → z ≡ pos (a - b)
exact (pos n) a b h e = ap pos (omega arith)
exact (negsuc n) a b h e = absurd (omega arith)

pub one_less : (a : ℕ) → 1 ≤ a → a ≤ 32 → wrap32 (pos a -ℤ pos 1) ≡ pos (a - 1)
one_less a h k = difference_kept a 1 (omega arith) (omega arith) ∙ exact (pos a -ℤ pos 1) a 1 h (omega (arith, sub_parts_ℤ (pos a) (pos 1)))

-- a number below 2 ^ k leaves the places from k on free
zeros_least : (n k : ℕ) → k ≤ 31 → n < 2 ^ k → 32 ≤ clz32 (pos n) + k
unfolding clz32
zeros_least n k h l =
    let p = pow_mono {i = k} {j = 31} h in
    let e : n % 2 ^ 32 ≡ n = mod-eq_of_lt (omega arith) in
    let f = leading_length 32 n (omega arith) in
    rw e (go f.0 (ltb f.0 (suc k)) refl f.1 f.3)
  where
    go : (m : ℕ) (b : Bool) → ltb m (suc k) ≡ b → count_leading_zeros 32 n + m ≡ 32 → 2 ^ m ≤ 2 * n + 1 → 32 ≤ count_leading_zeros 32 n + k
    go m true t e q = let g = ltb-true m (suc k) t in omega arith
    go m false t e q = absurd (omega (arith, pow_mono {i = suc k} {j = m} (ltb-false m (suc k) t), pow-suc 2 k))

pub zeros_some : (n : ℕ) → n < 2 ^ 31 → 1 ≤ clz32 (pos n)
zeros_some n h = omega (arith, zeros_least n 31 (omega arith) h)

-- the shift of a frame's energy
pub shift_most : (x : List ℤ) → length x ≤ 320 → energy_shift x ≤ 31
unfolding energy_shift
shift_most x h = omega (arith, zeros_least (length x) 9 (omega arith) (omega arith))

pub not_zero : (n : ℕ) → 1 ≤ n → pos n ≡ pos 0 → ⊥
not_zero n h e = let z : n ≡ 0 = cc in omega arith

-- a divisor that is not 0
pub divisor : (k : ℕ) → (m : ℕ) × (max_ℤ (pos k) (pos 1) ≡ pos m) × (1 ≤ m)
unfolding max_ℤ
divisor k = go (ltb 1 k) refl
  where
    go : (b : Bool) → ltb 1 k ≡ b → (m : ℕ) × (cond b (pos k) (pos 1) ≡ pos m) × (1 ≤ m)
    go true e = (k, refl, omega (arith, ltb-true 1 k e))
    go false e = (1, refl, omega arith)
