-- What the rising check's answer says of each line.
use Prim.Native.Nat.{ℕ, zero, suc, ◌-◌, ◌≤◌, ◌<◌}
use mathlib.Core.Path.{◌≡◌, refl}
use mathlib.Core.Bool.{Bool, true, false}
use mathlib.Core.Logic.{◌⊎◌, inl, inr}
use mathlib.Core.List.{List}
use native.Mathlib.Nat.{not-suc-le-zero}
use native.Mathlib.Numerals.{add-one}
use native.Mathlib.Omega.{arith}
use borrow.Author.Count.{below_more}
use borrow.Author.Tests.{le-ltb}
use lib.Dec.{T}
use lib.IntN.{ℤ, pos, ◌+ℤ◌}
use lib.ListN.{get_or, length}
use lib.Signed.{le_z, ◌≤ℤ◌}
use Rattle.word.proofs.Parts.{add_parts, le_parts, parts_le}
use Rattle.word.proofs.Rows.{both}
use Rattle.std.specs.Prelude.{Ok}
use Rattle.announcement.specs.Rising.{below, apart_to, rising, rising_refused, rising_of}
use Rattle.announcement.specs.Claims.{Rises, RisingExactly}

holds : (b : Bool) → T b → b ≡ true
holds true t = refl
holds false t = absurd t

-- line k lies at least 3 above what lies below it
abbrev Apart : List ℤ → ℕ → Type 0
Apart lines k = (below lines k +ℤ pos 3) ≤ℤ get_or lines k (pos 0)

pub apart-at : (lines : List ℤ) (n : ℕ) → apart_to lines n ≡ true → (k : ℕ) → k < n → Apart lines k
unfolding apart_to
apart-at lines zero e k h = absurd (not-suc-le-zero h)
apart-at lines (suc n) e k h =
    let t = both (apart_to lines n) (le_z (below lines n +ℤ pos 3) (get_or lines n (pos 0))) e in
    below_more (λ k. Apart lines k) n (apart-at lines n t.0) (record { le = rw t.1 tt }) k (rw add-one h)

at-apart : (lines : List ℤ) (n : ℕ) → ((k : ℕ) → k < n → Apart lines k) → apart_to lines n ≡ true
unfolding apart_to
at-apart lines zero h = refl
at-apart lines (suc n) h =
    rw (at-apart lines n (λ k l. h k (omega arith)), holds (le_z (below lines n +ℤ pos 3) (get_or lines n (pos 0))) (h n (omega arith)).le) refl

-- 3 below 32,768
top_le : (x : ℤ) → (x +ℤ pos 3) ≤ℤ pos 32768 → x ≤ℤ pos 32765
top_le x h = le_parts x (pos 32765) (omega (arith, parts_le h, add_parts x (pos 3)))

le_top : (x : ℤ) → x ≤ℤ pos 32765 → (x +ℤ pos 3) ≤ℤ pos 32768
le_top x h = le_parts (x +ℤ pos 3) (pos 32768) (omega (arith, parts_le h, add_parts x (pos 3)))

rises : (lines : List ℤ) (n : ℕ) → rising lines (suc n) ≡ true → Rises lines (suc n)
unfolding rising below
rises lines n e =
    let t = both (apart_to lines (suc n)) (le_z (get_or lines n (pos 0) +ℤ pos 3) (pos 32768)) e in
    let a = apart-at lines (suc n) t.0 in
    let m : suc n - 1 ≡ n = omega arith in
    record {
      bottom = a 0 (omega arith);
      apart = λ k h. a (suc k) h;
      top = rw m (top_le (get_or lines n (pos 0)) (record { le = rw t.1 tt }));
    }

risen : (lines : List ℤ) (n : ℕ) → Rises lines (suc n) → rising lines (suc n) ≡ true
unfolding rising below
risen lines n r =
    let m : suc n - 1 ≡ n = omega arith in
    let u : get_or lines n (pos 0) ≤ℤ pos 32765 = rw m at r.top in
    rw (at-apart lines (suc n) each, holds (le_z (get_or lines n (pos 0) +ℤ pos 3) (pos 32768)) (le_top (get_or lines n (pos 0)) u).le) refl
  where
    each : (k : ℕ) → k < suc n → Apart lines k
    each zero h = r.bottom
    each (suc k) h = r.apart k h

-- a call that is not refused
pub taken : (n d : ℕ) → (d ≡ 10) ⊎ (d ≡ 16) → d ≤ n → rising_refused n d ≡ false
taken n d (inl p) h = rw (p, le-ltb n 10 (omega arith)) refl
taken n d (inr p) h = rw (p, le-ltb n 16 (omega arith)) refl

pub answered : (lines : List ℤ) (d : ℕ) → (d ≡ 10) ⊎ (d ≡ 16) → d ≤ length lines → rising_of lines d ≡ Ok (rising lines d)
unfolding rising_of
answered lines d o h = rw (taken (length lines) d o h) refl

pub exactly : (lines : List ℤ) (d : ℕ) → (d ≡ 10) ⊎ (d ≡ 16) → (rising lines d ≡ true → Rises lines d) × (Rises lines d → rising lines d ≡ true)
exactly lines d (inl p) = rw p (rises lines 9, risen lines 9)
exactly lines d (inr p) = rw p (rises lines 15, risen lines 15)

pub rising_exactly : RisingExactly
rising_exactly lines d o h =
    let x = exactly lines d o in
    rw (answered lines d o h) (λ r e. cc, λ e. x.0 cc, λ r. rw (x.1 r) refl)
