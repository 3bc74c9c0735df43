-- The middle tap stays in -11,456 to 15,565 for every sum of 0 to 32,767.
use Prim.Native.Nat.{ℕ, ◌*◌, ◌/◌, ◌^◌, ◌<◌, ◌≤◌}
use mathlib.Core.Path.{◌≡◌, refl}
use mathlib.Core.Bool.{Bool, true, false, cond}
use native.Mathlib.Omega.{arith}
use native.Mathlib.Nat.{mul-le-mul, mul-le-mul_right, mul-div-le, lt_of_mul-lt-mul_left}
use borrow.Author.Tests.{lt-ltb, ltb-true, ltb-false}
use lib.Dec.{ltb}
use lib.IntN.{ℤ, pos, nat_abs, ◌*ℤ◌}
use lib.Signed.{quot_z}
use mir.Syntax.{w16}
use Rattle.word.specs.Int.{floor_div, wrap16, max_ℤ}
use Rattle.word.proofs.Parts.{P, N}
use Rattle.word.proofs.Sizes.{abs-parts, abs-mul, abs-div, abs-fits, fits-abs}
use Rattle.word.proofs.Words.{wrap_id, wrap-fits}
use Rattle.macros.specs.Fixed.{smulbb}
use Rattle.plc.specs.Update.{scaled_by, scaled_tap}

pub record Middle (z : ℤ) : Type 0 where
  pub low : N z ≤ 11456
  pub high : P z ≤ 15565

-- a number within 11,456 of 0
near : (z : ℤ) → nat_abs z ≤ 11456 → Middle (wrap16 z)
near z h =
    rw (wrap_id {w = w16} {z = z} (abs-fits z (omega arith))) (record { low = omega (arith, abs-parts z); high = omega (arith, abs-parts z) })

-- a number up to 15,565
up_to : (n : ℕ) → n ≤ 15565 → Middle (wrap16 (pos n))
up_to n h = rw (wrap_id {w = w16} {z = pos n} (abs-fits (pos n) (omega arith))) (record { low = omega arith; high = h })

-- a small sum times a quotient of 16 bits
small : (n : ℕ) → n ≤ 358 → Middle (scaled_by 10 (pos 11469) (pos n))
unfolding scaled_by smulbb
small n h =
    let q = wrap16 (quot_z (pos 11469 *ℤ pos (2 ^ 10)) (max_ℤ (pos n) (pos 1))) in
    let z = pos n *ℤ q in
    let w = mul-le-mul h (fits-abs q (wrap-fits w16 _)) in
    rw (wrap_id {w = w16} {z = pos n} (abs-fits (pos n) (omega arith)))
    (near (floor_div z (2 ^ 10)) (omega (arith, abs-div z (2 ^ 10) (omega arith), abs-mul (pos n) q)))

quotient_short : (K n b : ℕ) → b ≤ n → K < b * 32768 → K / n < 32768
quotient_short K n b h k =
    lt_of_mul-lt-mul_left n (omega (arith, mul-div-le K n, mul-le-mul_right 32768 h))

-- a sum whose quotient fits 16 bits
large : (q lim n b : ℕ) → 1 < n → n ≤ 32767 → b ≤ n → lim * 2 ^ q < b * 32768 → scaled_by q (pos lim) (pos n) ≡ wrap16 (pos (n * (lim * 2 ^ q / n) / 2 ^ q))
unfolding scaled_by smulbb max_ℤ
large q lim n b o h l k =
    let s = quotient_short (lim * 2 ^ q) n b l k in
    rw (lt-ltb 1 n o, wrap_id {w = w16} {z = pos n} (abs-fits (pos n) (omega arith)), wrap_id {w = w16} {z = pos (lim * 2 ^ q / n)} (abs-fits (pos (lim * 2 ^ q / n)) (omega arith)))

pub tap_range : (n : ℕ) → n ≤ 32767 → Middle (scaled_tap (pos n))
unfolding scaled_tap
tap_range n h = below (ltb n 11469) refl
  where
    few : (b : Bool) → ltb n 359 ≡ b → n < 11469 → Middle (scaled_by 10 (pos 11469) (pos n))
    few true e l = small n (omega (arith, ltb-true n 359 e))
    few false e l =
        let k = ltb-false n 359 e in
        rw (large 10 11469 n 359 (omega arith) h k (omega arith)) (up_to _ (omega (arith, mul-div-le (11469 * 2 ^ 10) n)))

    above : (b : Bool) → ltb 15565 n ≡ b → Middle (cond b (scaled_by 14 (pos 15565) (pos n)) (pos n))
    above true e =
        let k = ltb-true 15565 n e in
        rw (large 14 15565 n 15566 (omega arith) h k (omega arith)) (up_to _ (omega (arith, mul-div-le (15565 * 2 ^ 14) n)))
    above false e = record { low = omega arith; high = ltb-false 15565 n e }

    below : (b : Bool) → ltb n 11469 ≡ b → Middle (cond b (scaled_by 10 (pos 11469) (pos n)) (cond (ltb 15565 n) (scaled_by 14 (pos 15565) (pos n)) (pos n)))
    below true e = few (ltb n 359) refl (ltb-true n 11469 e)
    below false e = above (ltb 15565 n) refl
