-- Bandwidth expansion (document 01, "A lost frame": silk_bwexpander).
use Rattle.std.specs.Prelude.{ℕ, zero, suc, List, ℤ, pos, ◌*ℤ◌, slice_index_or, slice_set}
use Rattle.word.specs.Int.{wrap16, wrap32}
use Rattle.macros.specs.Fixed.{round_shift}

-- the factor of coefficient j (Q16): the chirp, then each times the chirp, rounded to the nearest, halves up
unfoldable pub factor : ℤ → ℕ → ℤ
factor chirp zero = chirp
factor chirp (suc j) = wrap32 (round_shift (factor chirp j *ℤ chirp) 16)

-- a coefficient times its factor, rounded to the nearest, halves up
unfoldable pub shrunk : ℤ → ℤ → ℤ
shrunk f x = wrap16 (round_shift (f *ℤ x) 16)

-- the first d coefficients shrunk
unfoldable pub bwexpander : ℤ → List ℤ → ℕ → List ℤ
bwexpander chirp a zero = a
bwexpander chirp a (suc j) = slice_set (bwexpander chirp a j) j (shrunk (factor chirp j) (slice_index_or a j (pos 0)))
