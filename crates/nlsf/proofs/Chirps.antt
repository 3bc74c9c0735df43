-- Chirps stay in 32 bits.
use Prim.Native.Nat.{ℕ, suc, ◌+◌, ◌-◌, ◌*◌, ◌/◌, ◌%◌, ◌^◌, ◌<◌, ◌≤◌}
use mathlib.Core.Path.{◌≡◌}
use mathlib.Core.Bool.{true}
use native.Mathlib.Nat.{mul-le-mul_left, div-mul-le_self, pow-suc}
use native.Mathlib.Omega.{arith}
use borrow.Author.Tests.{ltb-true}
use lib.Dec.{T}
use lib.IntN.{ℤ, pos, negsuc, nat_abs, ◌*ℤ◌}
use lib.Pow.{pow_mono}
use lib.Signed.{lt_z, non_neg}
use Rattle.word.specs.Int.{wrap32, mod_ℤ}
use Rattle.word.proofs.Sizes.{abs-fits}
use Rattle.word.proofs.Words.{wrap_id}

-- the quotient of a chirp
pub quotient_le : (m k : ℕ) → 32767 < m → m ≤ 163838 → (m - 32767) * 16384 / (m * (k + 1) / 4) ≤ 262144
quotient_le m k l h =
    let d = m * (k + 1) / 4 in
    let q = (m - 32767) * 16384 / d in
    let b : 8192 ≤ d = omega arith in
    let a : q * 8192 ≤ q * d = mul-le-mul_left q b in
    omega (arith, div-mul-le_self ((m - 32767) * 16384) d)

-- a number above 32,767
pub above : (z : ℤ) → lt_z (pos 32767) z ≡ true → T (non_neg z) × (32767 < nat_abs z)
above (pos n) e = (tt, ltb-true 32767 n e)
above (negsuc n) e = let z : ◌≡◌ {A = ℕ} 0 1 = cc in absurd (omega arith)

-- the shift of round i
pub round_shift_lem : (i : ℕ) → i < 16 → wrap32 (pos 2 *ℤ pos (2 ^ mod_ℤ (pos i) 32)) ≡ pos (2 ^ suc i)
round_shift_lem i h =
    let m : i % 32 ≡ i = omega arith in
    let e : 2 * 2 ^ i ≡ 2 ^ suc i = omega (arith, pow-suc 2 i) in
    rw (m, e) (wrap_id (abs-fits (pos (2 ^ suc i)) (omega (arith, pow_mono {i = suc i} {j = 16} h))))

pub round_le : (i : ℕ) → i < 16 → 2 ^ suc i ≤ 262144
round_le i h = omega (arith, pow_mono {i = suc i} {j = 16} h)
