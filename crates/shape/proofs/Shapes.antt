-- The rates, the counts of subframes, and the bounds of the lengths that follow from them.
use Prim.Native.Nat.{ℕ, ◌*◌, ◌≤◌}
use mathlib.Core.Path.{◌≡◌, refl}
use mathlib.Core.Bool.{Bool, true, false, cond, ◌||◌}
use mathlib.Core.Logic.{◌⊎◌, inl, inr}
use native.Mathlib.Omega.{arith}
use native.Mathlib.Nat.{mul-le-mul}
use lib.Dec.{T, eqb, lit≤, lit<}
use lib.IntN.{ℤ, pos, nat_abs}
use lib.Signed.{non_neg}
use mir.Syntax.{w32, w64}
use mir.Val.{of_z, to_z, Fits, SFits}
use Rattle.std.proofs.lemmas.Bool.{or_cases}
use Rattle.word.proofs.Order.{key, isnt, eq_ℤ_true}
use Rattle.word.specs.Int.{eq_ℤ}
use Rattle.shape.specs.Shape.{order_of, is_rate, is_count, rate_of, count_of}

-- ---- a number that is none of the keys
pub no_rate : (z : ℤ) → (of_z w32 z ≡ 8 → ⊥) → (of_z w32 z ≡ 12 → ⊥) → (of_z w32 z ≡ 16 → ⊥) → is_rate z ≡ false
unfolding is_rate
no_rate z a b c = rw (isnt w32 z 8 a, isnt w32 z 12 b, isnt w32 z 16 c)

pub no_count : (z : ℤ) → (of_z w32 z ≡ 2 → ⊥) → (of_z w32 z ≡ 4 → ⊥) → is_count z ≡ false
unfolding is_count
no_count z a b = rw (isnt w32 z 2 a, isnt w32 z 4 b)

-- ---- a rate by its key
pub rate_8 : (z : ℤ) → SFits w32 z → of_z w32 z ≡ 8 → rate_of z ≡ 8
unfolding is_rate rate_of
rate_8 z f e = rw (key w32 z 8 (lit< tt) f e) refl

pub rate_12 : (z : ℤ) → SFits w32 z → of_z w32 z ≡ 12 → rate_of z ≡ 12
unfolding is_rate rate_of
rate_12 z f e = rw (key w32 z 12 (lit< tt) f e) refl

pub rate_16 : (z : ℤ) → SFits w32 z → of_z w32 z ≡ 16 → rate_of z ≡ 16
unfolding is_rate rate_of
rate_16 z f e = rw (key w32 z 16 (lit< tt) f e) refl

pub rate_none : (z : ℤ) → (of_z w32 z ≡ 8 → ⊥) → (of_z w32 z ≡ 12 → ⊥) → (of_z w32 z ≡ 16 → ⊥) → rate_of z ≡ 0
unfolding rate_of
rate_none z a b c = rw (no_rate z a b c) refl

-- ---- what the tests say
pub data Rates (r : ℕ) : Type 0 where
  at8 : r ≡ 8 → Rates r
  at12 : r ≡ 12 → Rates r
  at16 : r ≡ 16 → Rates r

pub data Counts (n : ℕ) : Type 0 where
  two : n ≡ 2 → Counts n
  four : n ≡ 4 → Counts n

-- one of two tests
pub either : (a b : Bool) → (a || b) ≡ true → (a ≡ true) ⊎ (b ≡ true)
either = or_cases

rate_of-number : (z : ℤ) → is_rate z ≡ true → (z ≡ pos 8) ⊎ (z ≡ pos 12) ⊎ (z ≡ pos 16)
unfolding is_rate
rate_of-number z e = elim (either (eq_ℤ z (pos 8) || eq_ℤ z (pos 12)) (eq_ℤ z (pos 16)) e) [
  | inl p ↦ elim (either (eq_ℤ z (pos 8)) (eq_ℤ z (pos 12)) p) [
    | inl q ↦ inl (eq_ℤ_true z (pos 8) q)
    | inr q ↦ inr (inl (eq_ℤ_true z (pos 12) q))
  ]
  | inr p ↦ inr (inr (eq_ℤ_true z (pos 16) p))
]

pub rates : (z : ℤ) → is_rate z ≡ true → Rates (rate_of z)
unfolding rate_of is_rate
rates z e = elim (rate_of-number z e) [
  | inl p ↦ at8 (rw p)
  | inr q ↦ elim q [
    | inl p ↦ at12 (rw p)
    | inr p ↦ at16 (rw p)
  ]
]

-- a number that is a rate is the rate
pub rate_kept : (z : ℤ) → is_rate z ≡ true → z ≡ pos (rate_of z)
unfolding rate_of is_rate
rate_kept z e = elim (rate_of-number z e) [
  | inl p ↦ rw p
  | inr q ↦ elim q [
    | inl p ↦ rw p
    | inr p ↦ rw p
  ]
]

count_of-number : (z : ℤ) → is_count z ≡ true → (z ≡ pos 2) ⊎ (z ≡ pos 4)
unfolding is_count
count_of-number z e = elim (either (eq_ℤ z (pos 2)) (eq_ℤ z (pos 4)) e) [
  | inl q ↦ inl (eq_ℤ_true z (pos 2) q)
  | inr q ↦ inr (eq_ℤ_true z (pos 4) q)
]

pub counts : (z : ℤ) → is_count z ≡ true → Counts (count_of z)
unfolding count_of is_count
counts z e = elim (count_of-number z e) [
  | inl p ↦ two (rw p)
  | inr p ↦ four (rw p)
]

pub count_kept : (z : ℤ) → is_count z ≡ true → z ≡ pos (count_of z)
unfolding count_of is_count
count_kept z e = elim (count_of-number z e) [
  | inl p ↦ rw p
  | inr p ↦ rw p
]

-- ---- bounds
-- a rate r and a count n of subframes
pub record Shaped (r n : ℕ) : Type 0 where
  pub rate : Rates r
  pub count : Counts n
  pub rate_low : 8 ≤ r
  pub rate_high : r ≤ 16
  pub count_low : 2 ≤ n
  pub count_high : n ≤ 4
  pub order_low : 10 ≤ order_of r
  pub order_high : order_of r ≤ 16
  pub frame_low : 10 * r ≤ 5 * r * n
  pub frame_high : 5 * r * n ≤ 20 * r

pub rate_range : {r : ℕ} → Rates r → (8 ≤ r) × (r ≤ 16)
rate_range (at8 e) = (omega arith, omega arith)
rate_range (at12 e) = (omega arith, omega arith)
rate_range (at16 e) = (omega arith, omega arith)

pub order_two : {r : ℕ} → Rates r → (order_of r ≡ 10) ⊎ (order_of r ≡ 16)
unfolding order_of
order_two (at8 e) = inl (rw e refl)
order_two (at12 e) = inl (rw e refl)
order_two (at16 e) = inr (rw e refl)

pub order_range : {r : ℕ} → Rates r → (10 ≤ order_of r) × (order_of r ≤ 16)
unfolding order_of
order_range (at8 e) = rw e (lit≤ tt, lit≤ tt)
order_range (at12 e) = rw e (lit≤ tt, lit≤ tt)
order_range (at16 e) = rw e (lit≤ tt, lit≤ tt)

pub count_range : {n : ℕ} → Counts n → (2 ≤ n) × (n ≤ 4)
count_range (two e) = (omega arith, omega arith)
count_range (four e) = (omega arith, omega arith)

frame_range : (r : ℕ) {n : ℕ} → Counts n → (10 * r ≤ 5 * r * n) × (5 * r * n ≤ 20 * r)
frame_range r (two e) = rw e (omega arith, omega arith)
frame_range r (four e) = rw e (omega arith, omega arith)

pub shape-bounds : {r n : ℕ} → Rates r → Counts n → Shaped r n
shape-bounds {r} p q =
    record {
      rate = p;
      count = q;
      rate_low = (rate_range p).0;
      rate_high = (rate_range p).1;
      count_low = (count_range q).0;
      count_high = (count_range q).1;
      order_low = (order_range p).0;
      order_high = (order_range p).1;
      frame_low = (frame_range r q).0;
      frame_high = (frame_range r q).1;
    }

pub shaped : (z n : ℤ) → is_rate z ≡ true → is_count n ≡ true → Shaped (rate_of z) (count_of n)
shaped z n e f = shape-bounds (rates z e) (counts n f)

-- bounds that hold for numbers that are no rate or no count too
pub rate_le : (z : ℤ) → rate_of z ≤ 16
unfolding rate_of
rate_le z = go (is_rate z) refl
  where
    go : (b : Bool) → is_rate z ≡ b → rate_of z ≤ 16
    go true e = (rate_range (rates z e)).1
    go false e = rw e (lit≤ tt)

pub count_le : (z : ℤ) → count_of z ≤ 4
unfolding count_of
count_le z = go (is_count z) refl
  where
    go : (b : Bool) → is_count z ≡ b → count_of z ≤ 4
    go true e = (count_range (counts z e)).1
    go false e = rw e (lit≤ tt)

-- a number that is one is not negative
casts : {z : ℤ} (n : ℕ) → n ≤ 16 → z ≡ pos n → T (non_neg z) × Fits w64 (nat_abs z)
casts n h e = rw e (tt, record { fits = omega arith })

pub rate_casts : (z : ℤ) → is_rate z ≡ true → T (non_neg z) × Fits w64 (nat_abs z)
rate_casts z e = casts (rate_of z) (rate_le z) (rate_kept z e)

pub count_casts : (z : ℤ) → is_count z ≡ true → T (non_neg z) × Fits w64 (nat_abs z)
count_casts z e = let h = count_le z in casts (count_of z) (omega arith) (count_kept z e)

pub order_le : (r : ℕ) → order_of r ≤ 16
unfolding order_of
order_le r = go (eqb r 16) (eqb r 0)
  where
    go : (a b : Bool) → cond a 16 (cond b 0 10) ≤ 16
    go true b = lit≤ tt
    go false true = lit≤ tt
    go false false = lit≤ tt

pub frame_le : (z n : ℤ) → 5 * rate_of z * count_of n ≤ 320
frame_le z n =
    let a : 5 * rate_of z ≤ 80 = omega (arith, rate_le z) in
    omega (arith, mul-le-mul a (count_le n))

-- a rate and a count are kept by a word's bits
pub rate_back : (z : ℤ) → is_rate z ≡ true → to_z w32 (of_z w32 z) ≡ z
rate_back z e = elim (rate_of-number z e) [
  | inl p ↦ rw p refl
  | inr q ↦ elim q [
    | inl p ↦ rw p refl
    | inr p ↦ rw p refl
  ]
]

pub count_back : (z : ℤ) → is_count z ≡ true → to_z w32 (of_z w32 z) ≡ z
count_back z e = elim (count_of-number z e) [
  | inl p ↦ rw p refl
  | inr p ↦ rw p refl
]
