-- The numbers of a step.
use Prim.Native.Nat.{ℕ, min, zero, suc, ◌+◌, ◌-◌, ◌*◌, ◌/◌, ◌^◌, ◌<◌, ◌≤◌}
use mathlib.Core.Path.{◌≡◌, refl, sym, ap, ◌∙◌}
use mathlib.Core.Logic.{inl, inr}
use native.Mathlib.Omega.{arith}
use native.Mathlib.Nat.{mul-le-mul_right, div-mul-le_self, pow-suc, mod-eq_of_lt}
use borrow.Author.Tests.{lt-ltb, le-ltb}
use lib.Bits.{bit_and}
use lib.IntN.{ℤ, ◌-ℤ◌}
use mir.Syntax.{w16, w32}
use lib.Pow.{pow_pos, pow_mono}
use mir.Val.{SFits, of_z}
use mir.Facts.{Fits-of_z, Fits-lt-pow}
use Rattle.std.proofs.lemmas.Bool.{cases_lt}
use Rattle.word.specs.Int.{mod_ℤ, wrap16, wrap32}
use Rattle.word.proofs.Words.{wrap_id, wrap_cong, mod_wrap_low, low_bits, amount}
use Rattle.word.proofs.Mod.{mod_ℤ_lt}
use Rattle.word.proofs.Range.{sub-fits}
use Rattle.cng.specs.Noise.{halved_mask, Mask}

-- a line of a flat spectrum is of 16 bits
pub flat_le : (d i : ℕ) → i < d → suc i * (32767 / (d + 1)) ≤ 32767
flat_le d i h =
    let a : suc i * (32767 / (d + 1)) ≤ (d + 1) * (32767 / (d + 1)) = mul-le-mul_right (32767 / (d + 1)) (omega arith) in
    omega (arith, div-mul-le_self 32767 (d + 1))

-- the low 16 bits of the low 32
pub short : (z : ℤ) → wrap16 (wrap32 z) ≡ wrap16 z
short z = wrap_cong w16 (wrap32 z) z (mod_wrap_low w32 16 16 z refl)

-- the difference of two short numbers
pub difference : {a b : ℤ} → SFits w16 a → SFits w16 b → wrap32 (a -ℤ b) ≡ a -ℤ b
difference h k = wrap_id (sub-fits w16 w32 tt h k)

-- ---- the mask
step : (n m k : ℕ) → n < m → halved_mask n m (suc k) ≡ halved_mask n (m / 2) k
unfolding halved_mask
step n m k h = rw (lt-ltb n m h)

stop : (n m k : ℕ) → m ≤ n → halved_mask n m k ≡ m
unfolding halved_mask
stop n m zero h = refl
stop n m (suc k) h = rw (le-ltb n m h)

-- a mask of t bits is halved to one of k, where the number of k bits is no more than n and that of k + 1 bits is
halved : (n k j i t u : ℕ) → t ≡ j + k → u ≡ j + i → 2 ^ k ≤ n + 1 → n + 1 < 2 * 2 ^ k → halved_mask n (2 ^ t - 1) u ≡ 2 ^ k - 1
halved n k zero i t u e f h l =
    let same : t ≡ k = omega arith in
    rw same (stop n (2 ^ k - 1) u (omega (arith, pow_pos k)))
halved n k (suc j) i t u e f h l =
    let bits : t ≡ suc (j + k) = omega arith in
    let steps : u ≡ suc (j + i) = omega arith in
    let p : 2 ^ suc (j + k) ≡ 2 * 2 ^ (j + k) = omega (arith, pow-suc 2 (j + k)) in
    let q : 2 ^ k ≤ 2 ^ (j + k) = pow_mono {i = k} {j = j + k} (omega arith) in
    let half : (2 ^ suc (j + k) - 1) / 2 ≡ 2 ^ (j + k) - 1 = omega (arith, p, pow_pos (j + k)) in
    rw (bits, steps)
    (step n (2 ^ suc (j + k) - 1) (j + i) (omega (arith, p, q)) ∙ ap (λ (m : ℕ). halved_mask n m (j + i)) half ∙ halved n k j i (j + k) (j + i) refl refl h l)

-- the mask has as many bits as the count, or 8
pub mask_is : (n k : ℕ) → 2 ^ k ≤ min n 255 + 1 → min n 255 + 1 < 2 * 2 ^ k → (2 ^ k - 1 ≡ halved_mask n 255 8) × Mask (2 ^ k - 1)
mask_is n k h l =
    let most : k ≤ 8 = elim (cases_lt k 9) [ inl p ↦ omega arith | inr p ↦ absurd (omega (arith, pow_mono {i = 9} {j = k} p)) ] in
    let mask : Mask (2 ^ k - 1) = record { count = k; small = most; set = refl } in
    elim (cases_lt n 255) [
      | inl p ↦ (sym (halved n k (8 - k) k 8 8 (omega arith) (omega arith) (omega arith) (omega arith)), mask)
      | inr p ↦ elim (cases_lt k 8) [
        | inl q ↦ absurd (omega (arith, pow_mono {i = k} {j = 7} (omega arith)))
        | inr q ↦ let all : 2 ^ k ≡ 256 = omega (arith, pow_mono {i = 8} {j = k} q) in (sym (stop n 255 8 p ∙ omega arith), mask)
      ]
    ]

-- a word's bits under a mask
pub masked : (z : ℤ) (m : ℕ) → SFits w32 z → Mask m → (bit_and (mod_ℤ z (2 ^ 32)) m ≡ mod_ℤ z (m + 1)) × (mod_ℤ z (m + 1) ≤ 255)
masked z m f h =
    let k = h.count in
    let p = pow_pos k in
    let q : 2 ^ k ≤ 2 ^ 8 = pow_mono {i = k} {j = 8} h.small in
    let e : m + 1 ≡ 2 ^ k = omega (arith, h.set) in
    let b : mod_ℤ z (2 ^ 32) ≡ of_z w32 z = sym (low_bits w32 0 32 z refl f) ∙ mod-eq_of_lt (Fits-lt-pow (Fits-of_z f)) in
    let j : 32 ≡ 32 - k + k = omega (arith, h.small) in
    (rw (b, e, h.set) (amount w32 (32 - k) k z j f), omega (arith, mod_ℤ_lt z (m + 1) (omega arith)))
