-- Tests that hold together, and the ranges of numbers that they say.
use Prim.Native.Nat.{ℕ, zero, suc, ◌<◌, ◌≤◌, zero-le}
use mathlib.Core.Path.{◌≡◌, refl, sym}
use mathlib.Core.Bool.{Bool, true, false, not, cond, ◌&&◌, ◌||◌, false≢true}
use mathlib.Core.List.{List, [], ◌∷◌}
use native.Mathlib.Omega.{arith}
use native.Mathlib.Nat.{le_refl, not-suc-le-zero}
use borrow.Author.Tests.{leb-true, le-leb, ltb-true, ltb-false, lt-ltb}
use lib.Dec.{leb, ltb}
use lib.IntN.{ℤ, pos, negsuc, nat_abs}
use lib.ListN.{get_or}
use lib.Signed.{le_z, lt_z}
use Rattle.word.proofs.Rows.{both}
use Rattle.decoder.specs.Ranges.{within, all_within, only_if}

-- ---- tests joined from the left
abbrev pub conj : Bool → List Bool → Bool
conj b [] = b
conj b (c ∷ cs) = conj (b && c) cs

abbrev pub Holds : List Bool → Type 0
Holds [] = Unit {0}
Holds (b ∷ bs) = (b ≡ true) × Holds bs

pub holds : (b : Bool) (cs : List Bool) → conj b cs ≡ true → Holds (b ∷ cs)
holds b [] e = (e, tt)
holds b (c ∷ cs) e =
    let h = holds (b && c) cs e in
    let p = both b c h.0 in
    (p.0, (p.1, h.1))

pub together : (b : Bool) (cs : List Bool) → Holds (b ∷ cs) → conj b cs ≡ true
together b [] h = h.0
together b (c ∷ cs) h = together (b && c) cs (rw h.0 h.1.0, h.1.1)

-- what holds of both holds of either
pub either : {A : Type 0} (Q : A → Type 0) (b : Bool) {x y : A} → Q x → Q y → Q (cond b x y)
either Q true h k = h
either Q false h k = k

-- a row that does not apply
pub passes : (b : Bool) → not b ≡ false → b ≡ true
passes true e = refl
passes false e = sym e

-- ---- b where a condition holds
pub only : (c b : Bool) → only_if c b ≡ true → c ≡ true → b ≡ true
unfolding only_if
only c b e h = rw h at e

pub only_if_lem : (c b : Bool) → (c ≡ true → b ≡ true) → only_if c b ≡ true
unfolding only_if
only_if_lem true b h = h refl
only_if_lem false b h = refl

pub only-or : (c b : Bool) → (not c || b) ≡ only_if c b
unfolding only_if
only-or true b = refl
only-or false b = refl

pub only-not : (c b : Bool) → (c && not b) ≡ not (only_if c b)
unfolding only_if
only-not true b = refl
only-not false b = refl

-- ---- ranges
pub record Between (a b : ℕ) (z : ℤ) : Type 0 where
  pub is : z ≡ pos (nat_abs z)
  pub low : a ≤ nat_abs z
  pub high : nat_abs z ≤ b

pub natural : (z : ℤ) → le_z (pos 0) z ≡ true → z ≡ pos (nat_abs z)
natural (pos n) e = refl
natural (negsuc n) e = absurd (false≢true e)

pub natural-back : (z : ℤ) → z ≡ pos (nat_abs z) → le_z (pos 0) z ≡ true
natural-back z e = rw e (le-leb 0 (nat_abs z) zero-le)

pub between : (a b : ℕ) (z : ℤ) → within (pos a) (pos b) z ≡ true → Between a b z
unfolding within
between a b (pos n) e =
    let p = both (leb a n) (leb n b) e in
    record { is = refl; low = leb-true a n p.0; high = leb-true n b p.1 }
between a b (negsuc n) e = absurd (false≢true e)

pub between-back : {a b : ℕ} (z : ℤ) → Between a b z → within (pos a) (pos b) z ≡ true
unfolding within
between-back {a} {b} z h = rw (h.is, le-leb a (nat_abs z) h.low) (le-leb (nat_abs z) b h.high)

-- above zero
pub positive : (z : ℤ) → 0 < nat_abs z → z ≡ pos (nat_abs z) → lt_z (pos 0) z ≡ true
positive z h e = rw e (lt-ltb 0 (nat_abs z) h)

pub is_positive : (z : ℤ) → lt_z (pos 0) z ≡ true → 0 < nat_abs z
is_positive (pos n) e = ltb-true 0 n e
is_positive (negsuc n) e = absurd (false≢true e)

-- the first n elements
pub each : (low high : ℤ) (xs : List ℤ) (n : ℕ) → all_within low high xs n ≡ true → (i : ℕ) → i < n → within low high (get_or xs i (pos 0)) ≡ true
unfolding all_within
each low high xs zero e i h = absurd (not-suc-le-zero h)
each low high xs (suc n) e i h =
    let p = both (all_within low high xs n) (within low high (get_or xs n (pos 0))) e in
    go (ltb i n) refl (each low high xs n p.0 i) p.1
  where
    go : (t : Bool) → ltb i n ≡ t → (i < n → within low high (get_or xs i (pos 0)) ≡ true) → within low high (get_or xs n (pos 0)) ≡ true → within low high (get_or xs i (pos 0)) ≡ true
    go true k before last = before (ltb-true i n k)
    go false k before last =
        let l = ltb-false i n k in
        let q : i ≡ n = omega arith in
        rw q last

pub each_back : (low high : ℤ) (xs : List ℤ) (n : ℕ) → ((i : ℕ) → i < n → within low high (get_or xs i (pos 0)) ≡ true) → all_within low high xs n ≡ true
unfolding all_within
each_back low high xs zero h = refl
each_back low high xs (suc n) h =
    rw (each_back low high xs n (λ i k. h i (omega arith))) (h n (le_refl (suc n)))

-- each of the first n elements lies in a range
abbrev pub AllBetween : ℕ → ℕ → List ℤ → ℕ → Type 0
AllBetween a b xs n = (i : ℕ) → i < n → Between a b (get_or xs i (pos 0))

pub all_between : (a b : ℕ) (xs : List ℤ) (n : ℕ) → all_within (pos a) (pos b) xs n ≡ true → AllBetween a b xs n
all_between a b xs n e i h = between a b (get_or xs i (pos 0)) (each (pos a) (pos b) xs n e i h)

pub all_between_back : (a b : ℕ) (xs : List ℤ) (n : ℕ) → AllBetween a b xs n → all_within (pos a) (pos b) xs n ≡ true
all_between_back a b xs n h = each_back (pos a) (pos b) xs n (λ i k. between-back (get_or xs i (pos 0)) (h i k))
