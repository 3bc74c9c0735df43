-- The analysis filter (document 01, "Excitation and synthesis": rewhitening's rule; silk_lpc_analysis_filter).
use Rattle.std.specs.Prelude.{ℕ, zero, suc, ◌-◌, ◌^◌, cond, List, length, ℤ, pos, ◌+ℤ◌, ◌-ℤ◌, ◌*ℤ◌, nat_lt, slice_index_or}
use Rattle.word.specs.Int.{wrap32, sat16}
use Rattle.word.specs.Tabulate.{tabulate}
use Rattle.macros.specs.Fixed.{smulbb, rshift_round}

-- the 16-bit products of the first j coefficients and the samples before place i, newest first, added up; the sum wraps
unfoldable pub products : List ℤ → List ℤ → ℕ → ℕ → ℤ
products x a i zero = pos 0
products x a i (suc j) = wrap32 (products x a i j +ℤ smulbb (slice_index_or x (i - 1 - j) (pos 0)) (slice_index_or a j (pos 0)))

-- sample i less its prediction of order d: the difference (Q12) wraps, is rounded and saturated
unfoldable pub residual : List ℤ → List ℤ → ℕ → ℕ → ℤ
residual x a d i =
    sat16 (rshift_round (wrap32 (slice_index_or x i (pos 0) *ℤ pos (2 ^ 12) -ℤ products x a i d)) (pos 12))

-- the residual of x: the first d samples are 0
unfoldable pub analysis : List ℤ → List ℤ → ℕ → List ℤ
analysis x a d = tabulate (length x) (λ i. cond (nat_lt i d) (pos 0) (residual x a d i))
