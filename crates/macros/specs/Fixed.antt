-- SILK's products, roundings, generator and square root over the integers (macros.rs; cng.rs for smultt).
-- A letter says which part of an operand counts: w the whole word, b its low 16 bits as a signed number, t its high 16 bits.
use Rattle.std.specs.Prelude.{ℕ, ◌-◌, ◌*◌, ◌/◌, ◌%◌, ◌^◌, cond, eqb, ℤ, pos, nat_abs, neg_ℤ, ◌+ℤ◌, ◌-ℤ◌, ◌*ℤ◌}
use Rattle.std.specs.Int.Count.{count_leading_zeros}
use Rattle.std.specs.Int.Signed.{le_z, lt_z}
use Rattle.word.specs.Int.{floor_div, mod_ℤ, wrap16, wrap32, wrap64, sat32}
use Rattle.macros.specs.declared.ClzFrac.{ClzFrac}

-- a product in Q16, rounded down
unfoldable pub smulww : ℤ → ℤ → ℤ
smulww a b = wrap32 (floor_div (a *ℤ b) (2 ^ 16))

unfoldable pub smulwb : ℤ → ℤ → ℤ
smulwb a b = wrap32 (floor_div (a *ℤ wrap16 b) (2 ^ 16))

-- the whole product of two 16-bit parts
unfoldable pub smulbb : ℤ → ℤ → ℤ
smulbb a b = wrap16 a *ℤ wrap16 b

unfoldable pub smultt : ℤ → ℤ → ℤ
smultt a b = wrap32 (floor_div a (2 ^ 16) *ℤ floor_div b (2 ^ 16))

-- the high word of a product
unfoldable pub smmul : ℤ → ℤ → ℤ
smmul a b = wrap32 (floor_div (a *ℤ b) (2 ^ 32))

-- a product in Q16 added to a
unfoldable pub smlaww : ℤ → ℤ → ℤ → ℤ
smlaww a b c = wrap32 (a +ℤ smulww b c)

unfoldable pub smlawb : ℤ → ℤ → ℤ → ℤ
smlawb a b c = wrap32 (a +ℤ smulwb b c)

-- b shifted up by s places, added to a
unfoldable pub add_lshift32 : ℤ → ℤ → ℤ → ℤ
add_lshift32 a b s = wrap32 (a +ℤ wrap32 (b *ℤ pos (2 ^ mod_ℤ s 32)))

-- a shifted up by s places in 64 bits, then limited to 32
unfoldable pub lshift_sat32 : ℤ → ℤ → ℤ
lshift_sat32 a s = sat32 (wrap64 (a *ℤ pos (2 ^ mod_ℤ s 64)))

-- the next state of the generator
unfoldable pub rand : ℤ → ℤ
rand seed = wrap32 (pos 907633515 +ℤ seed *ℤ pos 196314165)

-- a divided by 2 ^ n, rounded to the nearest, halves up (n at least 1)
unfoldable pub round_shift : ℤ → ℕ → ℤ
round_shift a n = floor_div (a +ℤ pos (2 ^ (n - 1))) (2 ^ n)

-- a rounded by s places from 1 to 30, shifted up by -s from 0 down, 0 from 31 up
unfoldable pub rshift_round : ℤ → ℤ → ℤ
rshift_round a s =
    cond (le_z s (pos 0)) (wrap32 (a *ℤ pos (2 ^ mod_ℤ (neg_ℤ s) 32))) (cond (le_z (pos 31) s) (pos 0) (round_shift a (nat_abs s)))

-- a rounded by s places from 1 to 63, shifted up by -s from 0 down; from 64 up the shifts take the low 6 bits of their amounts
unfoldable pub rshift_round64 : ℤ → ℤ → ℤ
rshift_round64 a s =
    cond (le_z s (pos 0)) (wrap64 (a *ℤ pos (2 ^ mod_ℤ (neg_ℤ s) 64)))
    (cond (lt_z s (pos 64)) (round_shift a (nat_abs s))
    (floor_div a (2 ^ mod_ℤ s 64) +ℤ pos (mod_ℤ (floor_div a (2 ^ mod_ℤ (s -ℤ pos 1) 64)) 2)))

-- a product rounded by q places
unfoldable pub mul_q : ℤ → ℤ → ℤ → ℤ
mul_q a b q = wrap32 (rshift_round64 (a *ℤ b) q)

-- how many zeros stand above the highest set bit of a word
unfoldable pub clz32 : ℤ → ℕ
clz32 a = count_leading_zeros 32 (mod_ℤ a (2 ^ 32))

-- the 7 bits below the highest set bit of a word
unfoldable pub frac_q7 : ℤ → ℕ
frac_q7 x = mod_ℤ x (2 ^ 32) * 2 ^ clz32 x / 2 ^ 24 % 128

unfoldable pub clz_frac : ℤ → ClzFrac
clz_frac x = record { lz = pos (clz32 x); frac_q7 = pos (frac_q7 x) }

-- the root of the highest set bit, given the zeros above it: 2 ^ 15 or its product with the root of 2, halved for each two zeros
unfoldable pub sqrt_start : ℕ → ℤ
sqrt_start lz = floor_div (cond (eqb (lz % 2) 1) (pos 32768) (pos 46214)) (2 ^ (lz / 2))

-- about the square root of a positive number, else 0: the bits below the highest one add up to 213 / 2 ^ 16 for each 1 / 128
unfoldable pub sqrt_approx : ℤ → ℤ
sqrt_approx x =
    cond (le_z x (pos 0)) (pos 0) (smlawb (sqrt_start (clz32 x)) (sqrt_start (clz32 x)) (smulbb (pos 213) (pos (frac_q7 x))))
