-- Document 01, "Shape": rate r is 8, 12 or 16 (kHz); n is 2 or 4 subframes of 5r samples; frame 5rn; history 20r; order 10 at 8 and 12, 16 at 16.
use Rattle.std.specs.Prelude.{ℕ, ◌*◌, Bool, cond, ◌||◌, eqb, ℤ, pos, nat_abs}
use Rattle.word.specs.Int.{eq_ℤ}

-- the rate (kHz) and the count of subframes
pub record Shape : Type 0 where
  pub rate : ℕ
  pub subframes : ℕ

abbrev pub subfr_length : Shape → ℕ
subfr_length p = 5 * p.rate

abbrev pub frame_length : Shape → ℕ
frame_length p = 5 * p.rate * p.subframes

-- the history's length
abbrev pub mem_length : Shape → ℕ
mem_length p = 20 * p.rate

-- the filter's order at a rate, 0 where there is no rate
unfoldable pub order_of : ℕ → ℕ
order_of r = cond (eqb r 16) 16 (cond (eqb r 0) 0 10)

abbrev pub lpc_order : Shape → ℕ
lpc_order p = order_of p.rate

-- a number is a rate
unfoldable pub is_rate : ℤ → Bool
is_rate r = eq_ℤ r (pos 8) || eq_ℤ r (pos 12) || eq_ℤ r (pos 16)

-- a number is a count of subframes
unfoldable pub is_count : ℤ → Bool
is_count n = eq_ℤ n (pos 2) || eq_ℤ n (pos 4)

-- the rate that a number stands for, 0 where it stands for none
unfoldable pub rate_of : ℤ → ℕ
rate_of r = cond (is_rate r) (nat_abs r) 0

-- the count that a number stands for, 0 where it stands for none
unfoldable pub count_of : ℤ → ℕ
count_of n = cond (is_count n) (nat_abs n) 0

abbrev pub shape : ℤ → ℤ → Shape
shape r n = record { rate = rate_of r; subframes = count_of n }
