-- Leaps over draws: maps from x to factor x + term modulo 2 ^ 32.
use Rattle.std.specs.Prelude.{ℕ, zero, suc, ◌-◌, ◌%◌, ◌^◌, ℤ, pos, ◌+ℤ◌, ◌*ℤ◌}
use Rattle.word.specs.Int.{wrap32}
use Rattle.generator.specs.declared.Leap.{Leap}

-- where a leap lands from x
unfoldable pub landed : Leap → ℤ → ℤ
landed f x = wrap32 (f.factor *ℤ x +ℤ f.term)

-- one leap, then another
unfoldable pub joined : Leap → Leap → Leap
joined f g = record { factor = wrap32 (g.factor *ℤ f.factor); term = wrap32 (g.factor *ℤ f.term +ℤ g.term) }

-- no draw, and a single one
unfoldable pub no_draw : Leap
no_draw = record { factor = pos 1; term = pos 0 }

unfoldable pub one_draw : Leap
one_draw = record { factor = pos 196314165; term = pos 907633515 }

-- n times the same leap
unfoldable pub times : Leap → ℕ → Leap
times f zero = no_draw
times f (suc n) = joined (times f n) f

-- k draws in one leap
abbrev pub leap_of : ℕ → Leap
leap_of k = times one_draw k

-- how many draws undo k draws
unfoldable pub undoing : ℕ → ℕ
undoing k = 2 ^ 32 - k % 2 ^ 32
