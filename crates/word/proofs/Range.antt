-- The range of a word: sums, differences, products and quotients that fit.
use Prim.Native.Nat.{ℕ, zero, suc, max, ◌+◌, ◌*◌, ◌/◌, ◌^◌, ◌<◌, ◌≤◌}
use mathlib.Core.Path.{◌≡◌, refl}
use mathlib.Core.Bool.{Bool, true, false}
use native.Mathlib.Omega.{arith}
use native.Mathlib.Nat.{le_trans, le_of_lt, lt_of_le_of_lt, div-le_self, mul-le-mul, pow-suc}
use borrow.Author.Tests.{ltb-true}
use lib.Dec.{T, ltb, ltb→lt}
use lib.IntN.{ℤ, pos, negsuc, neg_ℤ, sub_ℕ, ◌+ℤ◌, ◌-ℤ◌, ◌*ℤ◌}
use lib.Pow.{pow_mono, pow-lt, pow-add}
use lib.Signed.{mag}
use mir.Syntax.{Width}
use mir.Val.{SFits, hbits}
use Rattle.word.specs.Int.{floor_div}

mag_sub : (a b : ℕ) → mag (sub_ℕ a b) ≤ a + b
mag_sub a b = go (ltb a b) refl
  where
    go : (t : Bool) → ltb a b ≡ t → mag (sub_ℕ a b) ≤ a + b
    go true e = let k = ltb-true a b e in rw e (omega arith)
    go false e = rw e (omega arith)

pub mag_add : (a b : ℤ) → mag (a +ℤ b) ≤ mag a + mag b + 1
mag_add (pos a) (pos b) = omega arith
mag_add (pos a) (negsuc b) = let k = mag_sub a (suc b) in omega arith
mag_add (negsuc a) (pos b) = let k = mag_sub b (suc a) in omega arith
mag_add (negsuc a) (negsuc b) = omega arith

-- a difference is no larger than the larger part
pub mag_sub_max : (a b : ℕ) → mag (sub_ℕ a (suc b)) ≤ max a b
mag_sub_max a b = go (ltb a (suc b)) refl
  where
    go : (t : Bool) → ltb a (suc b) ≡ t → mag (sub_ℕ a (suc b)) ≤ max a b
    go true e = rw e (omega arith)
    go false e = rw e (omega arith)

pub neg_pos : (n : ℕ) → mag (neg_ℤ (pos n)) ≤ n
neg_pos zero = omega arith
neg_pos (suc n) = omega arith

mag_diff : (a b : ℤ) → mag (a -ℤ b) ≤ mag a + mag b + 1
mag_diff a (pos b) = omega (arith, mag_add a (neg_ℤ (pos b)), neg_pos b)
mag_diff (pos a) (negsuc b) = omega arith
mag_diff (negsuc a) (negsuc b) = omega (arith, mag_sub_max (suc b) a)

-- the product of two numbers whose sizes are below A and B
mag_mul : (a b : ℤ) (A B : ℕ) → mag a < A → mag b < B → mag (a *ℤ b) ≤ A * B
mag_mul (pos a) (pos b) A B h k = mul-le-mul (le_of_lt h) (le_of_lt k)
mag_mul (pos a) (negsuc b) A B h k = le_trans (neg_pos (a * suc b)) (mul-le-mul (le_of_lt h) k)
mag_mul (negsuc a) (pos b) A B h k = le_trans (neg_pos (suc a * b)) (mul-le-mul h (le_of_lt k))
mag_mul (negsuc a) (negsuc b) A B h k = mul-le-mul h k

pub mag_floor_div : (z : ℤ) (m : ℕ) → mag (floor_div z m) ≡ mag z / m
mag_floor_div (pos n) m = refl
mag_floor_div (negsuc n) m = refl

-- ---- numbers of one word, in a wider one
twice : (w w' : Width) → T (ltb (hbits w) (hbits w')) → 2 ^ hbits w + 2 ^ hbits w ≤ 2 ^ hbits w'
twice w w' t =
    omega (arith, pow_mono {i = suc (hbits w)} {j = hbits w'} (ltb→lt (hbits w) (hbits w') t), pow-suc 2 (hbits w))

pub sub-fits : (w w' : Width) {a b : ℤ} → T (ltb (hbits w) (hbits w')) → SFits w a → SFits w b → SFits w' (a -ℤ b)
sub-fits w w' {a} {b} t h k =
    let f = h.sfits in
    let g = k.sfits in
    record { sfits = omega (arith, mag_diff a b, twice w w' t) }

pub mul-fits : (w w' : Width) {a b : ℤ} → T (ltb (hbits w + hbits w) (hbits w')) → SFits w a → SFits w b → SFits w' (a *ℤ b)
mul-fits w w' {a} {b} t h k =
    let H = 2 ^ hbits w in
    let p : H * H < 2 ^ hbits w' = rw (← pow-add 2 (hbits w) (hbits w)) (pow-lt (ltb→lt (hbits w + hbits w) (hbits w') t)) in
    record { sfits = lt_of_le_of_lt (mag_mul a b H H h.sfits k.sfits) p }

pub floor_div-fits : {w : Width} (z : ℤ) (m : ℕ) → SFits w z → SFits w (floor_div z m)
floor_div-fits (pos n) m h = record { sfits = lt_of_le_of_lt (div-le_self n m) h.sfits }
floor_div-fits (negsuc n) m h = record { sfits = lt_of_le_of_lt (div-le_self n m) h.sfits }
