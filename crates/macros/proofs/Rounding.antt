-- Rounding shifts as the floor of a sum.
use Prim.Native.Nat.{ℕ, zero, suc, ◌+◌, ◌-◌, ◌*◌, ◌/◌, ◌%◌, ◌^◌, ◌<◌, ◌≤◌}
use mathlib.Core.Path.{◌≡◌, refl, sym, ap, ◌∙◌}
use mathlib.Core.Bool.{Bool, true, false, cond}
use native.Mathlib.Omega.{arith}
use native.Mathlib.Nat.{le_trans, mul-le-mul_right, div-le_of_le-mul, div-div-eq-div-mul, add-div_right, div-eq-sub-div, div-eq_of_lt, pow-suc}
use borrow.Author.Tests.{lt-ltb, ltb-true, ltb-false, leb-false, lt-leb}
use lib.Dec.{ltb, lit<}
use lib.Pow.{pow_pos, pow_mono}
use lib.IntN.{ℤ, pos, negsuc, nat_abs, sub_ℕ, ◌+ℤ◌, ◌-ℤ◌, ◌*ℤ◌, -ℤ_one}
use lib.Signed.{mag, le_z, lt_z}
use mir.Syntax.{w32, w64}
use mir.Val.{SFits}
use Rattle.word.specs.Int.{mod_ℤ, floor_div, wrap32}
use Rattle.word.proofs.Mod.{mod_ℤ_lt}
use Rattle.word.proofs.Range.{mag_add, mag_sub_max, mag_floor_div}
use Rattle.word.proofs.Words.{wrap_id}
use Rattle.macros.specs.Fixed.{round_shift, rshift_round}

half_small : (m : ℕ) → m < 30 → 2 ^ m ≤ 2 ^ 30
half_small m h = pow_mono {i = m} {j = 30} (omega arith)

two_le : (m : ℕ) → 2 ≤ 2 ^ suc m
two_le m = pow_mono {i = 1} {j = suc m} (omega arith)

-- the rounded quotient fits
pub round_fits : (a : ℤ) (m : ℕ) → SFits w32 a → m < 30 → SFits w32 (floor_div (a +ℤ pos (2 ^ m)) (2 ^ suc m))
round_fits a m h k =
    let z = a +ℤ pos (2 ^ m) in
    let b : mag z ≤ 2 * (2 ^ 31 - 1) = omega (arith, mag_add a (pos (2 ^ m)), half_small m k) in
    let q = div-le_of_le-mul (2 ^ suc m) {m = mag z} {n = 2 ^ 31 - 1} (le_trans b (mul-le-mul_right (2 ^ 31 - 1) (two_le m))) in
    record { sfits = omega (arith, mag_floor_div z (2 ^ suc m), q) }

pub round_is : (a s : ℤ) → SFits w32 a → le_z s (pos 0) ≡ false → le_z (pos 31) s ≡ false
    → wrap32 (floor_div (a +ℤ wrap32 (pos 1 *ℤ pos (2 ^ mod_ℤ (wrap32 (s -ℤ pos 1)) 32))) (2 ^ mod_ℤ s 64)) ≡ round_shift a (nat_abs s)
unfolding round_shift
round_is a (negsuc n) h l u = cc
round_is a (pos zero) h l u = cc
round_is a (pos (suc m)) h l u =
    let k = leb-false 31 (suc m) u in
    let d : wrap32 (pos (suc m) -ℤ pos 1) ≡ pos m = ap wrap32 (-ℤ_one (pos (suc m))) ∙ wrap_id (record { sfits = omega arith }) in
    let e : suc m % 64 ≡ suc m = omega arith in
    let f : m % 32 ≡ m = omega arith in
    let g : 1 * 2 ^ m ≡ 2 ^ m = omega arith in
    let i : suc m - 1 ≡ m = omega arith in
    let j : wrap32 (pos (2 ^ m)) ≡ pos (2 ^ m) = wrap_id (record { sfits = omega (arith, half_small m (omega arith)) }) in
    rw (d, e, f, g, i, j) (wrap_id (round_fits a m h (omega arith)))

-- by a number of places from 1 to 30
pub round_at : (a : ℤ) (n : ℕ) → n < 30 → rshift_round a (pos (suc n)) ≡ floor_div (a +ℤ pos (2 ^ n)) (2 ^ suc n)
unfolding rshift_round round_shift
round_at a n h =
    let i : suc n - 1 ≡ n = omega arith in
    rw (lt-leb (suc n) 0 (omega arith), lt-leb 31 (suc n) (omega arith), i) refl

-- ---- in 64 bits
-- the quotient and the bit below it: how the code rounds
abbrev Places : ℤ → ℕ → ℕ → ℤ
Places a m n = floor_div a (2 ^ m) +ℤ pos (mod_ℤ (floor_div a (2 ^ n)) 2)

abbrev pub Up : ℤ → ℤ → ℤ
Up a s = Places a (mod_ℤ s 64) (mod_ℤ (s -ℤ pos 1) 64)

places-fit : (a : ℤ) (m n : ℕ) → SFits w64 a → (m ≡ 0 → n ≡ 63) → SFits w64 (Places a m n)
places-fit (pos a) zero n h e = rw (e refl) (record { sfits = omega arith })
places-fit (negsuc a) zero n h e =
    rw (e refl) (record { sfits = omega (arith, mag_sub_max (2 - suc (a / 2 ^ 63 % 2)) (a / 1)) })
places-fit a (suc m) n h e =
    let q = floor_div a (2 ^ suc m) in
    let d = div-le_of_le-mul (2 ^ suc m) {m = mag a} {n = 2 ^ 62} (le_trans b (mul-le-mul_right (2 ^ 62) (two_le m))) in
    let r = mod_ℤ (floor_div a (2 ^ n)) 2 in
    record { sfits = omega (arith, mag_add q (pos r), mag_floor_div a (2 ^ suc m), d, mod_ℤ_lt (floor_div a (2 ^ n)) 2 (lit< tt)) }
  where
    b : mag a ≤ 2 * 2 ^ 62
    b = let k = h.sfits in omega arith

pub up_fits : (a s : ℤ) → SFits w64 a → le_z s (pos 0) ≡ false → SFits w64 (Up a s)
up_fits a (negsuc k) h e = let z : ◌≡◌ {A = ℕ} 0 1 = cc in absurd (omega arith)
up_fits a (pos zero) h e = let z : ◌≡◌ {A = ℕ} 0 1 = cc in absurd (omega arith)
up_fits a (pos (suc k)) h e = rw (-ℤ_one (pos (suc k))) (places-fit a (suc k % 64) (k % 64) h (λ z. omega arith))

-- the same as half of 2 ^ (k + 1) added, and then divided
halves : (n h : ℕ) → n / (h * 2) ≡ n / h / 2
halves n h = sym (div-div-eq-div-mul n h 2)

up_half : (a : ℤ) (h : ℕ) → 0 < h → floor_div a (h * 2) +ℤ pos (mod_ℤ (floor_div a h) 2) ≡ floor_div (a +ℤ pos h) (h * 2)
up_half (pos n) h p =
    rw (halves n h, halves (n + h) h, add-div_right n p) (ap pos (omega arith))
up_half (negsuc n) h p = go (ltb h (suc n)) refl
  where
    go : (t : Bool) → ltb h (suc n) ≡ t → negsuc (n / (h * 2)) +ℤ pos (2 - suc (n / h % 2)) ≡ floor_div (sub_ℕ h (suc n)) (h * 2)
    go true e =
        let k = ltb-true h (suc n) e in
        let l : suc n - suc h ≡ n - h = omega arith in
        let d = div-eq-sub-div {m = h} {n = n} p (omega arith) in
        rw (e, l, halves n h, halves (n - h) h, lt-ltb (2 - suc (n / h % 2)) (suc (n / h / 2)) (omega arith)) (ap negsuc (omega arith))
    go false e =
        let k = ltb-false h (suc n) e in
        let z : n / h ≡ 0 = div-eq_of_lt (omega arith) in
        let y : (h - suc n) / h ≡ 0 = div-eq_of_lt (omega arith) in
        rw (e, halves n h, z, halves (h - suc n) h, y) refl

pub round64_is : (a s : ℤ) → le_z s (pos 0) ≡ false → Up a s ≡ cond (lt_z s (pos 64)) (round_shift a (nat_abs s)) (Up a s)
unfolding round_shift
round64_is a (negsuc n) e = let z : ◌≡◌ {A = ℕ} 0 1 = cc in absurd (omega arith)
round64_is a (pos zero) e = let z : ◌≡◌ {A = ℕ} 0 1 = cc in absurd (omega arith)
round64_is a (pos (suc k)) e = go (ltb (suc k) 64) refl
  where
    go : (t : Bool) → ltb (suc k) 64 ≡ t → Up a (pos (suc k)) ≡ cond t (round_shift a (suc k)) (Up a (pos (suc k)))
    go true l =
        let h = ltb-true (suc k) 64 l in
        let m : suc k % 64 ≡ suc k = omega arith in
        let n : k % 64 ≡ k = omega arith in
        let i : suc k - 1 ≡ k = omega arith in
        rw (-ℤ_one (pos (suc k)), m, n, i, pow-suc 2 k) (up_half a (2 ^ k) (pow_pos k))
    go false l = refl
