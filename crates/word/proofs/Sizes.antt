-- The size of an integer, its number without the sign, and what each operation makes of it.
use Prim.Native.Nat.{ℕ, zero, suc, ◌+◌, ◌*◌, ◌/◌, ◌^◌, ◌<◌, ◌≤◌}
use mathlib.Core.Path.{◌≡◌, refl}
use mathlib.Core.Bool.{Bool, true, false, cond}
use native.Mathlib.Omega.{arith}
use native.Mathlib.Nat.{le_refl, le_trans, mod-add-div, mul-suc}
use borrow.Author.Tests.{ltb-true, ltb-false}
use lib.Dec.{ltb}
use lib.IntN.{ℤ, pos, negsuc, nat_abs, neg_ℤ, ◌+ℤ◌, ◌-ℤ◌, ◌*ℤ◌}
use lib.Signed.{lt_z}
use mir.Syntax.{Width}
use mir.Val.{SFits, hbits}
use Rattle.word.specs.Int.{floor_div, wrap, wrap32, clamp, min_ℤ}
use Rattle.word.proofs.Parts.{P, N, add_parts, sub_parts_ℤ, div_parts}
use Rattle.word.proofs.Words.{wrap_id, wrap-fits}

pub abs-parts : (z : ℤ) → nat_abs z ≡ P z + N z
abs-parts (pos n) = omega arith
abs-parts (negsuc n) = omega arith

-- one of the two parts is 0, so a bound on either side is a bound on the size
pub abs_le : (z : ℤ) (B : ℕ) → P z ≤ N z + B → N z ≤ P z + B → nat_abs z ≤ B
abs_le (pos n) B h k = omega arith
abs_le (negsuc n) B h k = omega arith

pub abs-add : (a b : ℤ) → nat_abs (a +ℤ b) ≤ nat_abs a + nat_abs b
abs-add a b =
    let k = add_parts a b in
    abs_le (a +ℤ b) (nat_abs a + nat_abs b) (omega (arith, abs-parts a, abs-parts b)) (omega (arith, abs-parts a, abs-parts b))

pub abs_neg : (a : ℤ) → nat_abs (neg_ℤ a) ≡ nat_abs a
abs_neg (pos zero) = refl
abs_neg (pos (suc n)) = refl
abs_neg (negsuc n) = refl

pub abs-sub : (a b : ℤ) → nat_abs (a -ℤ b) ≤ nat_abs a + nat_abs b
abs-sub a b = omega (arith, abs-add a (neg_ℤ b), abs_neg b)

pub abs-mul : (a b : ℤ) → nat_abs (a *ℤ b) ≡ nat_abs a * nat_abs b
abs-mul (pos a) (pos b) = refl
abs-mul (pos a) (negsuc b) = abs_neg (pos (a * suc b))
abs-mul (negsuc a) (pos b) = abs_neg (pos (suc a * b))
abs-mul (negsuc a) (negsuc b) = refl

-- a quotient that rounds down
pub abs-div : (z : ℤ) (m : ℕ) → 0 < m → m * nat_abs (floor_div z m) + 1 ≤ nat_abs z + m
abs-div (pos n) m h = omega (arith, mod-add-div n m)
abs-div (negsuc n) m h = omega (arith, mod-add-div n m, mul-suc m (n / m))

-- what fits a word
pub fits-abs : {w : Width} (z : ℤ) → SFits w z → nat_abs z ≤ 2 ^ hbits w
fits-abs (pos n) h = let k = h.sfits in omega arith
fits-abs (negsuc n) h = h.sfits

pub abs-fits : {w : Width} (z : ℤ) → nat_abs z < 2 ^ hbits w → SFits w z
abs-fits (pos n) h = record { sfits = h }
abs-fits (negsuc n) h = record { sfits = omega arith }

-- a difference of two numbers of a word that are not negative
pub difference_kept : (a b : ℕ) → a < 2 ^ 31 → b < 2 ^ 31 → wrap32 (pos a -ℤ pos b) ≡ pos a -ℤ pos b
difference_kept a b h k =
    let z = pos a -ℤ pos b in
    let p = sub_parts_ℤ (pos a) (pos b) in
    wrap_id (abs-fits z (omega (arith, abs_le z 2147483647 (omega arith) (omega arith))))

-- no word makes a number larger
pub abs-wrap : (w : Width) (z : ℤ) → nat_abs (wrap w z) ≤ nat_abs z
abs-wrap w z = go (ltb (nat_abs z) (2 ^ hbits w)) refl
  where
    go : (b : Bool) → ltb (nat_abs z) (2 ^ hbits w) ≡ b → nat_abs (wrap w z) ≤ nat_abs z
    go true e = rw (wrap_id {w = w} {z = z} (abs-fits z (ltb-true (nat_abs z) (2 ^ hbits w) e))) (le_refl (nat_abs z))
    go false e = le_trans (fits-abs (wrap w z) (wrap-fits w z)) (ltb-false (nat_abs z) (2 ^ hbits w) e)

-- and no limit does
pub abs-clamp : (B : ℕ) (z : ℤ) → nat_abs (clamp (negsuc B) (pos B) z) ≤ nat_abs z
unfolding clamp
abs-clamp B z = low (lt_z z (negsuc B)) refl
  where
    high : (b : Bool) → lt_z (pos B) z ≡ b → nat_abs (cond b (pos B) z) ≤ nat_abs z
    high true u = above z u
      where
        above : (z : ℤ) → lt_z (pos B) z ≡ true → B ≤ nat_abs z
        above (pos n) u = let k = ltb-true B n u in omega arith
        above (negsuc n) u = let e : ◌≡◌ {A = ℕ} 0 1 = cc in absurd (omega arith)
    high false u = le_refl (nat_abs z)

    below : (z : ℤ) → lt_z z (negsuc B) ≡ true → suc B ≤ nat_abs z
    below (pos n) l = let e : ◌≡◌ {A = ℕ} 0 1 = cc in absurd (omega arith)
    below (negsuc n) l = let k = ltb-true B n l in omega arith

    low : (b : Bool) → lt_z z (negsuc B) ≡ b → nat_abs (cond b (negsuc B) (cond (lt_z (pos B) z) (pos B) z)) ≤ nat_abs z
    low true l = below z l
    low false l = high (lt_z (pos B) z) refl

-- a limit from above lowers no negative number
pub abs_min : (z : ℤ) (B : ℕ) → nat_abs (min_ℤ z (pos B)) ≤ nat_abs z
unfolding min_ℤ
abs_min z B = go (lt_z z (pos B)) z refl
  where
    go : (b : Bool) (z : ℤ) → lt_z z (pos B) ≡ b → nat_abs (cond b z (pos B)) ≤ nat_abs z
    go true z e = le_refl (nat_abs z)
    go false (pos n) e = ltb-false n B e
    go false (negsuc n) e = let z : ◌≡◌ {A = ℕ} 0 1 = cc in absurd (omega arith)

-- a multiple of the size, from a bound on both sides
scaled : (q : ℤ) (m B : ℕ) → m * P q ≤ m * N q + B → m * N q ≤ m * P q + B → m * nat_abs q ≤ B
scaled (pos n) m B h k = omega arith
scaled (negsuc n) m B h k = omega arith

-- a quotient rounded to the nearest, halves up: no larger than the size so rounded
pub abs_round : (z : ℤ) (h m : ℕ) → 0 < h → m ≡ h + h → m * nat_abs (floor_div (z +ℤ pos h) m) ≤ nat_abs z + h
abs_round z h m p e =
    let q = floor_div (z +ℤ pos h) m in
    let d = div_parts (z +ℤ pos h) m (omega arith) in
    let a = add_parts z (pos h) in
    let b = abs-parts z in
    scaled q m (nat_abs z + h) (omega arith) (omega arith)
