-- The energy of samples as a number of 32 bits and a shift (sigproc_fix.rs, silk_sum_sqr_shift without vector units).
use Rattle.std.specs.Prelude.{ℕ, zero, suc, ◌+◌, ◌-◌, ◌*◌, ◌/◌, ◌^◌, List, length, ℤ, pos}
use Rattle.word.specs.Size.{size_at}
use Rattle.macros.specs.Fixed.{clz32}
use Rattle.sigproc.specs.declared.Energy.{Energy}

-- sample i squared, 0 past the end
abbrev pub square : List ℤ → ℕ → ℕ
square x i = size_at x i * size_at x i

-- the first m pairs of samples: the squares of each pair added up and divided by 2 ^ s
unfoldable pub pairs : List ℤ → ℕ → ℕ → ℕ
pairs x s zero = 0
pairs x s (suc m) = pairs x s m + (square x (2 * m) + square x (2 * m + 1)) / 2 ^ s

-- all samples in pairs, a last one alone
unfoldable pub energy_at : List ℤ → ℕ → ℕ
energy_at x s = pairs x s ((length x + 1) / 2)

-- the place of the highest bit of the samples' number: with this shift a first estimate of up to 320 samples fits 31 bits
abbrev pub first_shift : List ℤ → ℕ
first_shift x = 31 - clz32 (pos (length x))

-- the shift that leaves 29 bits of energy, by the highest bit of the estimate
unfoldable pub energy_shift : List ℤ → ℕ
energy_shift x = first_shift x + 3 - clz32 (pos (length x + energy_at x (first_shift x)))

unfoldable pub sum_sqr_shift : List ℤ → Energy
sum_sqr_shift x = record { energy = pos (energy_at x (energy_shift x)); shift = pos (energy_shift x) }
