-- Bandwidth expansion of 32-bit coefficients (nlsf.rs, silk_bwexpander_32).
use Rattle.std.specs.Prelude.{ℕ, zero, suc, List, ℤ, pos, ◌+ℤ◌, ◌-ℤ◌, ◌*ℤ◌, get_or, length}
use Rattle.word.specs.Int.{wrap32}
use Rattle.word.specs.Tabulate.{tabulate}
use Rattle.macros.specs.Fixed.{smulww, rshift_round}

-- the factor after f (Q16): f and its product with the chirp less 1, of which the low 32 bits are rounded
unfoldable pub next_factor : ℤ → ℤ → ℤ
next_factor chirp f = wrap32 (f +ℤ rshift_round (wrap32 (f *ℤ (chirp -ℤ pos 65536))) (pos 16))

-- the factor of coefficient j
unfoldable pub factor32 : ℤ → ℕ → ℤ
factor32 chirp zero = chirp
factor32 chirp (suc j) = next_factor chirp (factor32 chirp j)

-- each coefficient times its factor
unfoldable pub bwexpander32 : ℤ → List ℤ → List ℤ
bwexpander32 chirp a = tabulate (length a) (λ j. smulww (factor32 chirp j) (get_or a j (pos 0)))
