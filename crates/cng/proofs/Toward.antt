-- A number of a range moved a part of the way to another stays in the range.
use Prim.Native.Nat.{ℕ, zero, suc, ◌+◌, ◌*◌, ◌^◌, ◌<◌, ◌≤◌}
use mathlib.Core.Path.{◌≡◌, refl, sym, ap, ◌∙◌, subst}
use mathlib.Core.List.{List}
use native.Mathlib.Omega.{arith}
use native.Mathlib.Nat.{mul-le-mul_left}
use lib.IntN.{ℤ, pos, negsuc, nat_abs, ◌+ℤ◌, ◌-ℤ◌, ◌*ℤ◌}
use lib.ListN.{get_or}
use lib.Signed.{lt_z}
use mir.Syntax.{w16, w32}
use Rattle.word.specs.Int.{floor_div, wrap32}
use Rattle.word.proofs.Parts.{P, N, add_parts, sub_parts_ℤ, mul-parts, div_parts}
use Rattle.word.proofs.Sizes.{abs_le, abs-fits, difference_kept}
use Rattle.word.proofs.Words.{wrap_id}
use Rattle.macros.specs.Fixed.{smulwb, smulww}
use Rattle.decoder.proofs.Between.{either, Between, AllBetween}
use Rattle.cng.specs.Noise.{smoothed_line, next_gain, smoothed_gain}

-- a range by the two parts
from_parts : (z : ℤ) (M : ℕ) → N z ≤ P z → P z ≤ N z + M → Between 0 M z
from_parts (pos n) M h k = record { is = refl; low = omega arith; high = omega arith }
from_parts (negsuc n) M h k = absurd (omega arith)

-- the difference of two numbers up to M, by its parts
apart : (z : ℤ) (a b M : ℕ) → a ≤ M → b ≤ M → P z + a ≡ N z + b → (a + P z ≤ M) × (N z ≤ a)
apart (pos k) a b M ha hb e = (omega arith, omega arith)
apart (negsuc k) a b M ha hb e = (omega arith, omega arith)

module _ (a b M : ℕ) (ha : a ≤ M) (hb : b ≤ M) (hM : M < 2 ^ 31) where
  parts : (a + P (pos b -ℤ pos a) ≤ M) × (N (pos b -ℤ pos a) ≤ a)
  parts = apart (pos b -ℤ pos a) a b M ha hb (omega (arith, sub_parts_ℤ (pos b) (pos a)))

  pub toward : (c : ℕ) → c < 2 ^ 15 → Between 0 M (pos a +ℤ smulwb (pos b -ℤ pos a) (pos c))
  unfolding smulwb
  toward c hc =
      let z = pos b -ℤ pos a in
      let q = floor_div (z *ℤ pos c) (2 ^ 16) in
      let p = parts in
      let m = mul-parts z (pos c) in
      let d = div_parts (z *ℤ pos c) (2 ^ 16) (omega arith) in
      let x : P z * c ≤ P z * 65536 = mul-le-mul_left (P z) (omega arith) in
      let y : N z * c ≤ N z * 65536 = mul-le-mul_left (N z) (omega arith) in
      let u : P q ≤ N q + P z = omega arith in
      let v : N q ≤ P q + N z = omega arith in
      let f = abs_le q M (omega arith) (omega arith) in
      let k = add_parts (pos a) q in
      rw (wrap_id {w = w16} {z = pos c} (abs-fits (pos c) hc), wrap_id {w = w32} {z = q} (abs-fits q (omega arith)))
      (from_parts (pos a +ℤ q) M (omega arith) (omega arith))

-- the same of numbers that are known by their ranges
moved : (M c : ℕ) (x y : ℤ) → M < 2 ^ 31 → c < 2 ^ 15 → Between 0 M x → Between 0 M y → Between 0 M (x +ℤ smulwb (y -ℤ x) (pos c))
moved M c x y hM hc h k =
    subst (λ (v : ℤ). Between 0 M (v +ℤ smulwb (y -ℤ v) (pos c))) (sym h.is)
    (subst (λ (v : ℤ). Between 0 M (pos (nat_abs x) +ℤ smulwb (v -ℤ pos (nat_abs x)) (pos c))) (sym k.is)
    (toward (nat_abs x) (nat_abs y) M h.high k.high hM c hc))

pub smoothed_line-between : (held line : ℤ) → Between 0 32767 held → Between 0 32767 line → Between 0 32767 (smoothed_line held line)
unfolding smoothed_line
smoothed_line-between held line h k =
    let m = moved 32767 16348 held line (omega arith) (omega arith) h k in
    rw (wrap_id {w = w16} (abs-fits (held +ℤ smulwb (line -ℤ held) (pos 16348)) (omega (arith, m.high)))) m

pub next_gain-between : (held g : ℤ) → Between 0 1686110208 held → Between 0 1686110208 g → Between 0 1686110208 (next_gain held g)
unfolding next_gain
next_gain-between held g h k =
    let m = moved 1686110208 4634 held g (omega arith) (omega arith) h k in
    let d : wrap32 (g -ℤ held) ≡ g -ℤ held =
    subst (λ (v : ℤ). wrap32 (g -ℤ v) ≡ g -ℤ v) (sym h.is)
    (subst (λ (v : ℤ). wrap32 (v -ℤ pos (nat_abs held)) ≡ v -ℤ pos (nat_abs held)) (sym k.is)
    (difference_kept (nat_abs g) (nat_abs held) (omega (arith, k.high)) (omega (arith, h.high)))) in
    let e : wrap32 (held +ℤ smulwb (wrap32 (g -ℤ held)) (pos 4634)) ≡ held +ℤ smulwb (g -ℤ held) (pos 4634) =
    ap (λ (v : ℤ). wrap32 (held +ℤ smulwb v (pos 4634))) d ∙ wrap_id {w = w32} (abs-fits (held +ℤ smulwb (g -ℤ held) (pos 4634)) (omega (arith, m.high))) in
    either (Between 0 1686110208) (lt_z g (smulww (wrap32 (held +ℤ smulwb (wrap32 (g -ℤ held)) (pos 4634))) (pos 46396))) k (subst (Between 0 1686110208) (sym e) m)

pub smoothed_gain-between : (low : ℕ) (held : ℤ) (gains : List ℤ) (n : ℕ) → Between 0 1686110208 held → AllBetween low 1686110208 gains n → Between 0 1686110208 (smoothed_gain held gains n)
unfolding smoothed_gain
smoothed_gain-between low held gains zero h k = h
smoothed_gain-between low held gains (suc n) h k =
    let g = k n (omega arith) in
    next_gain-between (smoothed_gain held gains n) (get_or gains n (pos 0)) (smoothed_gain-between low held gains n h (λ i l. k i (omega arith)))
    (record { is = g.is; low = omega arith; high = g.high })
