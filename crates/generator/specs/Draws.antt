-- The draws of the generator (macros.rs, silk_rand).
use Rattle.std.specs.Prelude.{ℕ, zero, suc, ◌^◌, ℤ}
use Rattle.word.specs.Int.{mod_ℤ}
use Rattle.macros.specs.Fixed.{rand}

-- the generator after k draws
unfoldable pub drawn : ℤ → ℕ → ℤ
drawn seed zero = seed
drawn seed (suc k) = rand (drawn seed k)

-- the unsigned number that a value of the generator has as its 32 bits
abbrev pub unsigned : ℤ → ℕ
unsigned x = mod_ℤ x (2 ^ 32)

-- draw k, counted from 0: the generator after its step, as an unsigned number
abbrev pub draw_at : ℤ → ℕ → ℕ
draw_at seed k = unsigned (drawn seed (suc k))
