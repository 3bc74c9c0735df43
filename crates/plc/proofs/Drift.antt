-- Concealment's noise and pitch stay in their ranges.
use Prim.Native.Nat.{ℕ, ◌+◌, ◌*◌, ◌/◌, ◌^◌, ◌<◌, ◌≤◌}
use mathlib.Core.Path.{◌≡◌, refl, ◌∙◌}
use mathlib.Core.Bool.{Bool, true, false, cond}
use mathlib.Core.List.{List}
use native.Mathlib.Omega.{arith}
use native.Mathlib.Nat.{mul-le-mul, div-le_of_le-mul, mul_comm, le_refl}
use borrow.Author.Tests.{ltb-true, ltb-false}
use lib.Dec.{ltb}
use lib.IntN.{ℤ, pos, negsuc, nat_abs, ◌-ℤ◌, ◌*ℤ◌, +ℤ_idl, +ℤ_idr}
use lib.Signed.{lt_z}
use mir.Syntax.{w16, w32}
use Rattle.word.specs.Int.{floor_div, wrap16, min_ℤ, max_ℤ, eq_ℤ}
use Rattle.word.proofs.Words.{wrap_id}
use Rattle.word.proofs.Parts.{P, N, sub_parts_ℤ}
use Rattle.word.proofs.Sizes.{abs-fits}
use Rattle.macros.specs.Fixed.{smulwb, smulbb, smlawb}
use Rattle.macros.proofs.Rounding.{round_at}
use Rattle.stability.specs.Stability.{stability, inverse_gain}
use Rattle.decoder.specs.declared.SilkPLCState.{SilkPLCState}
use Rattle.judge.specs.Taps.{tap_sum}
use Rattle.decoder.proofs.Between.{Between}
use Rattle.decoder.proofs.Built.{in_range}
use Rattle.plc.specs.Update.{middle}
use Rattle.plc.specs.Conceal.{lag_of, noise_gain, noise_scale, harm_gain}
use Rattle.plc.proofs.Tap.{Middle}
use Rattle.plc.proofs.Fading.{product}

-- the smaller and the larger of two numbers
min_between : (l h n : ℕ) → l ≤ n → l ≤ h → Between l h (min_ℤ (pos n) (pos h))
unfolding min_ℤ
min_between l h n a b = go (ltb n h) refl
  where
    go : (t : Bool) → ltb n h ≡ t → Between l h (cond t (pos n) (pos h))
    go true e = let k = ltb-true n h e in in_range l h n a (omega arith)
    go false e = in_range l h h b (le_refl h)

max_between : (l h : ℕ) (z : ℤ) → l ≤ h → P z ≤ h → Between l h (max_ℤ z (pos l))
unfolding max_ℤ
max_between l h (pos n) a b = go (ltb l n) refl
  where
    go : (t : Bool) → ltb l n ≡ t → Between l h (cond t (pos n) (pos l))
    go true e = let k = ltb-true l n e in in_range l h n (omega arith) b
    go false e = in_range l h l (le_refl l) a
max_between l h (negsuc n) a b = in_range l h l (le_refl l) a

limited : (l h : ℕ) (z : ℤ) → l ≤ h → Between l h (max_ℤ (pos l) (min_ℤ (pos h) z))
unfolding max_ℤ min_ℤ
limited l h (negsuc n) a = in_range l h l (le_refl l) a
limited l h (pos n) a = go (ltb h n) refl
  where
    low : (m : ℕ) → m ≤ h → Between l h (cond (ltb m l) (pos l) (pos m))
    low m k = pick (ltb m l) refl
      where
        pick : (t : Bool) → ltb m l ≡ t → Between l h (cond t (pos l) (pos m))
        pick true e = in_range l h l (le_refl l) a
        pick false e = in_range l h m (ltb-false m l e) k

    go : (t : Bool) → ltb h n ≡ t → Between l h (cond (lt_z (cond t (pos h) (pos n)) (pos l)) (pos l) (cond t (pos h) (pos n)))
    go true e = low h (le_refl h)
    go false e = low n (ltb-false h n e)

-- ---- products of a word and 16 bits
smulwb_pos : (a b : ℕ) → b < 32768 → a * b / 65536 < 2147483648 → smulwb (pos a) (pos b) ≡ pos (a * b / 65536)
unfolding smulwb
smulwb_pos a b h k = rw (wrap_id (abs-fits {w = w16} (pos b) h)) (wrap_id (abs-fits {w = w32} _ k))

-- ---- the pitch (Q8) grows and is capped
pub drift : (r p : ℕ) → r ≤ 16 → 512 * r ≤ p → p ≤ 4608 * r → Between (512 * r) (4608 * r) (min_ℤ (smlawb (pos p) (pos p) (pos 655)) (pos (4608 * r)))
unfolding smlawb
drift r p hr l h =
    rw (smulwb_pos p 655 (omega arith) (omega arith), wrap_id (abs-fits {w = w32} (pos (p + p * 655 / 65536)) (omega arith)))
    (min_between (512 * r) (4608 * r) (p + p * 655 / 65536) (omega arith) (omega arith))

-- its lag
pub lag_range : (r p : ℕ) → 512 * r ≤ p → p ≤ 4608 * r → Between (2 * r) (18 * r) (lag_of (pos p))
lag_range r p l h = rw (round_at (pos p) 7 (omega arith)) (in_range _ _ _ (omega arith) (omega arith))

-- ---- the noise's gain
strong : (z : ℤ) → Between 0 32767 (floor_div (smulwb (max_ℤ (pos (2 ^ 22)) (min_ℤ (pos (2 ^ 27)) z) *ℤ pos (2 ^ 3)) (pos 32440)) (2 ^ 14))
strong z =
    let b = limited (2 ^ 22) (2 ^ 27) z (omega arith) in
    let n = nat_abs (max_ℤ (pos (2 ^ 22)) (min_ℤ (pos (2 ^ 27)) z)) in
    rw (b.is, smulwb_pos (n * 8) 32440 (omega arith) (omega (arith, b.high))) (in_range 0 32767 _ (omega arith) (omega (arith, b.high)))

pub noise_gain_lem : (losses type edition : ℤ) (a : List ℤ) → Between 0 32767 (noise_gain losses type edition a)
unfolding noise_gain
noise_gain_lem losses type edition a = go (eq_ℤ type (pos 2)) (eq_ℤ losses (pos 0)) (inverse_gain (stability edition a))
  where
    go : (v f : Bool) (z : ℤ) → Between 0 32767 (cond v (cond f (pos 31130) (pos 26214)) (cond f (floor_div (smulwb (max_ℤ (pos (2 ^ 22)) (min_ℤ (pos (2 ^ 27)) z) *ℤ pos (2 ^ 3)) (pos 32440)) (2 ^ 14)) (pos 29491)))
    go true true z = in_range _ _ _ (omega arith) (omega arith)
    go true false z = in_range _ _ _ (omega arith) (omega arith)
    go false true z = strong z
    go false false z = in_range _ _ _ (omega arith) (omega arith)

pub harm_gain_lem : (losses : ℤ) → Between 0 32767 (harm_gain losses)
unfolding harm_gain
harm_gain_lem losses = go (eq_ℤ losses (pos 0))
  where
    go : (f : Bool) → Between 0 32767 (cond f (pos 32440) (pos 31130))
    go true = in_range _ _ _ (omega arith) (omega arith)
    go false = in_range _ _ _ (omega arith) (omega arith)

-- ---- the noise's scale
pub middle-sum : (b : ℤ) → tap_sum (middle b) 0 ≡ b
unfolding tap_sum
middle-sum b = +ℤ_idr _ ∙ +ℤ_idr _ ∙ +ℤ_idl b

part_le : (z : ℤ) (B : ℕ) → P z ≤ N z + B → P z ≤ B
part_le (pos n) B h = omega arith
part_le (negsuc n) B h = omega arith

start : (b : ℤ) (scale : ℕ) → Middle b → scale ≤ 16384 → Between 0 27840 (wrap16 (floor_div (smulbb (max_ℤ (pos 16384 -ℤ b) (pos 3277)) (pos scale)) (2 ^ 14)))
start b scale t h =
    let k = sub_parts_ℤ (pos 16384) b in
    let m = max_between 3277 27840 (pos 16384 -ℤ b) (omega arith) (part_le (pos 16384 -ℤ b) 27840 (omega (arith, t.low))) in
    let n = nat_abs (max_ℤ (pos 16384 -ℤ b) (pos 3277)) in
    let d : n * scale / 16384 ≤ 27840 = div-le_of_le-mul 16384 (rw (mul_comm n scale) (mul-le-mul h m.high)) in
    rw (m.is, product 16384 n scale (omega (arith, m.high)) (omega arith) (omega arith)) (in_range 0 27840 _ (omega arith) d)

pub noise_scale_lem : (losses type : ℤ) (h : SilkPLCState) (b : ℤ) (scale : ℕ) → h.ltp_coef_q14 ≡ middle b → Middle b → h.prev_ltp_scale_q14 ≡ pos scale → scale ≤ 16384 → Between 0 27840 h.rand_scale_q14
    → Between 0 27840 (noise_scale losses type h)
unfolding noise_scale
noise_scale_lem losses type h b scale e t f l r =
    rw (e, middle-sum b, f) (go (eq_ℤ losses (pos 0)) (eq_ℤ type (pos 2)))
  where
    go : (u v : Bool) → Between 0 27840 (cond u (cond v (wrap16 (floor_div (smulbb (max_ℤ (pos 16384 -ℤ b) (pos 3277)) (pos scale)) (2 ^ 14))) (pos 16384)) h.rand_scale_q14)
    go true true = start b scale t l
    go true false = in_range _ _ _ (omega arith) (omega arith)
    go false v = r
