-- Document 02, Note 11: "from a, with s values, it is a plus the unsigned draw times s over 2^32, rounded down".
use Rattle.std.specs.Prelude.{ℕ, ◌+◌, ◌*◌, ◌/◌, ◌^◌, List, ℤ, pos, ◌+ℤ◌}
use Rattle.word.specs.Tabulate.{tabulate}
use Rattle.generator.specs.Draws.{draw_at}

unfoldable pub scaled : ℤ → ℕ → ℕ → ℤ
scaled a s u = a +ℤ pos (u * s / 2 ^ 32)

-- draw k of a seed, scaled
unfoldable pub pick : ℤ → ℕ → ℤ → ℕ → ℤ
pick a s seed k = scaled a s (draw_at seed k)

-- n draws, from draw k on
unfoldable pub picks : ℤ → ℕ → ℤ → ℕ → ℕ → List ℤ
picks a s seed k n = tabulate n (λ i. pick a s seed (k + i))
