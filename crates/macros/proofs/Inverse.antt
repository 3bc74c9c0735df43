-- The inverse of a gain, from the shift that it ends in alone.
use Prim.Native.Nat.{ℕ, zero, suc, ◌+◌, ◌-◌, ◌*◌, ◌/◌, ◌%◌, ◌^◌, ◌<◌, ◌≤◌}
use mathlib.Core.Path.{◌≡◌, refl, sym, ap, ◌∙◌, subst}
use mathlib.Core.Bool.{Bool, true, false}
use native.Mathlib.Omega.{arith}
use native.Mathlib.Nat.{le_refl, le_trans, le_of_lt, mod-eq_of_lt, mul-le-mul_left, mul-le-mul_right, mul_assoc}
use borrow.Author.Tests.{lt-ltb, lt-leb, ne_eqb, ltb-true, ltb-false}
use lib.Dec.{ltb}
use lib.Count.{count_leading_zeros, leading_top}
use lib.Pow.{pow_mono, pow-add, shr_lt}
use lib.IntN.{ℤ, pos, negsuc, nat_abs, ◌-ℤ◌, -ℤ_one}
use lib.Signed.{mag}
use mir.Syntax.{w32}
use mir.Val.{SFits}
use Rattle.word.specs.Int.{mod_ℤ, floor_div, wrap32, min_ℤ}
use Rattle.macros.specs.Fixed.{clz32}
use Rattle.macros.specs.Quotient.{headroom, shift_down, normal, first_inverse, second_inverse, inverse32_varq}
use Rattle.word.proofs.Parts.{sub_parts_ℤ, eq_parts}
use Rattle.word.proofs.Words.{mod-wrap, wrap_id}
use Rattle.word.proofs.Sizes.{abs-fits, abs_min}
use Rattle.macros.proofs.Ranges.{second_inverse-fits}

-- a word shifted down by s, and a number of at most 16 + s bits
shifted : (R : ℤ) (s : ℕ) → s ≤ 31 → SFits w32 R → nat_abs (floor_div R (2 ^ s)) * 2 ^ s ≤ 2 ^ 31
shifted R s h f = go R f.sfits
  where
    e : 31 - s + s ≡ 31
    e = omega arith

    below : (n : ℕ) → n < 2 ^ 31 → suc (n / 2 ^ s) * 2 ^ s ≤ 2 ^ 31
    below n k =
        let q : n / 2 ^ s < 2 ^ (31 - s) = shr_lt (31 - s) s (rw e k) in
        let m : 2 ^ (31 - s) * 2 ^ s ≡ 2 ^ 31 = sym (pow-add 2 (31 - s) s) ∙ ap (λ (k : ℕ). 2 ^ k) e in
        le_trans (mul-le-mul_right (2 ^ s) q) (rw m (le_refl (2 ^ 31)))

    go : (R : ℤ) → mag R < 2 ^ 31 → nat_abs (floor_div R (2 ^ s)) * 2 ^ s ≤ 2 ^ 31
    go (pos n) k = le_trans (mul-le-mul_right (2 ^ s) (omega arith)) (below n k)
    go (negsuc n) k = below n k

room-is : (G l : ℕ) → G < 2 ^ 31 → count_leading_zeros 32 G ≡ suc l → headroom (pos G) ≡ pos l
unfolding headroom clz32
room-is G l h e =
    let m : mod_ℤ (wrap32 (pos G)) (2 ^ 32) ≡ G = mod-wrap w32 (pos G) ∙ mod-eq_of_lt (omega arith) in
    rw (m, e) (-ℤ_one (pos (suc l)))

shift_is : (l : ℕ) → l ≤ 14 → wrap32 (wrap32 (pos 61 -ℤ pos l) -ℤ pos 46) ≡ pos (15 - l)
shift_is l h =
    let a : pos 61 -ℤ pos l ≡ pos (61 - l) = eq_parts (pos 61 -ℤ pos l) (pos (61 - l)) (omega (arith, sub_parts_ℤ (pos 61) (pos l))) in
    let b : pos (61 - l) -ℤ pos 46 ≡ pos (15 - l) = eq_parts (pos (61 - l) -ℤ pos 46) (pos (15 - l)) (omega (arith, sub_parts_ℤ (pos (61 - l)) (pos 46))) in
    rw (a, wrap_id {w = w32} {z = pos (61 - l)} (abs-fits (pos (61 - l)) (omega arith)), b) (wrap_id {w = w32} {z = pos (15 - l)} (abs-fits (pos (15 - l)) (omega arith)))

down_is : (R : ℤ) (s : ℕ) → 0 < s → s < 32 → shift_down R (pos s) ≡ floor_div R (2 ^ s)
unfolding shift_down
down_is R s h k =
    let m : s % 32 ≡ s = omega arith in
    rw (lt-leb s 0 h, lt-ltb s 32 k, m) refl

inverse-is : (G l : ℕ) → 2 ^ 16 ≤ G → G < 2 ^ 31 → count_leading_zeros 32 G ≡ suc l → l ≤ 14
    → inverse32_varq (pos G) (pos 46) ≡ floor_div (second_inverse (normal (pos G)) (first_inverse (normal (pos G)))) (2 ^ (15 - l))
unfolding inverse32_varq
inverse-is G l h k e hl =
    rw (ne_eqb G 0 (λ z. omega arith), room-is G l k e, shift_is l hl) (down_is _ (15 - l) (omega arith) (omega arith))

fewer : (G l j : ℕ) → 2 ^ 16 ≤ G → l + j ≡ 30 → G < 2 ^ suc j → l ≤ 14
fewer G l j h e t = go (ltb j 16) refl
  where
    go : (b : Bool) → ltb j 16 ≡ b → l ≤ 14
    go true c = absurd (omega (arith, pow_mono {i = suc j} {j = 16} (ltb-true j 16 c)))
    go false c = omega (arith, ltb-false j 16 c)

-- the size of the inverse times the gain, and the size alone
inverse_le : (G : ℕ) → 2 ^ 16 ≤ G → G < 2 ^ 31 → (nat_abs (inverse32_varq (pos G) (pos 46)) * G ≤ 2 ^ 47) × (nat_abs (inverse32_varq (pos G) (pos 46)) ≤ 2 ^ 30)
inverse_le G h k = go (count_leading_zeros 32 G) refl (leading_top 32 G (omega arith) (omega arith))
  where
    go : (L : ℕ) → count_leading_zeros 32 G ≡ L → (j : ℕ) × (count_leading_zeros 32 G + suc j ≡ 32) × (2 ^ j ≤ G) × (G < 2 ^ suc j)
        → (nat_abs (inverse32_varq (pos G) (pos 46)) * G ≤ 2 ^ 47) × (nat_abs (inverse32_varq (pos G) (pos 46)) ≤ 2 ^ 30)
    go zero e t =
        let a : t.0 ≡ 31 = omega (arith, t.1) in
        let b : 2 ^ 31 ≤ G = subst (λ (j : ℕ). 2 ^ j ≤ G) a t.2 in
        absurd (omega arith)
    go (suc l) e t =
        let hl : l ≤ 14 = fewer G l t.0 h (omega (arith, t.1)) t.3 in
        let R = second_inverse (normal (pos G)) (first_inverse (normal (pos G))) in
        let q = nat_abs (floor_div R (2 ^ (15 - l))) in
        let a : suc t.0 ≡ 15 - l + 16 = omega (arith, t.1) in
        let g : G ≤ 2 ^ (15 - l) * 2 ^ 16 = le_of_lt (rw (sym (pow-add 2 (15 - l) 16)) (subst (λ (j : ℕ). G < 2 ^ j) a t.3)) in
        let m : q * G ≤ q * (2 ^ (15 - l) * 2 ^ 16) = mul-le-mul_left q g in
        let s = shifted R (15 - l) (omega arith) (second_inverse-fits (normal (pos G)) (first_inverse (normal (pos G)))) in
        let b : q * (2 ^ (15 - l) * 2 ^ 16) ≡ q * 2 ^ (15 - l) * 2 ^ 16 = sym (mul_assoc q (2 ^ (15 - l)) (2 ^ 16)) in
        let two : q * 2 ≤ q * 2 ^ (15 - l) = mul-le-mul_left q (pow_mono {i = 1} {j = 15 - l} (omega arith)) in
        rw (inverse-is G l h k e hl) (le_trans m (rw b (mul-le-mul_right (2 ^ 16) s)), omega arith)

-- a gain's inverse at 46, limited to 2 ^ 30 - 1: its size times the gain, and its size
pub inverse_gain_lem : (G : ℕ) → 2 ^ 16 ≤ G → G < 2 ^ 31 → nat_abs (min_ℤ (inverse32_varq (pos G) (pos 46)) (pos 1073741823)) * G ≤ 2 ^ 47
inverse_gain_lem G h k =
    le_trans (mul-le-mul_right G (abs_min (inverse32_varq (pos G) (pos 46)) 1073741823)) (inverse_le G h k).0
