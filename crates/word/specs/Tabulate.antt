-- A list by its elements.
use Rattle.std.specs.Prelude.{ℕ, zero, suc, List, [], ◌∷◌, ◌++◌, ℤ}

-- f 0, f 1, .., f (n - 1)
unfoldable pub tabulate : ℕ → (ℕ → ℤ) → List ℤ
tabulate zero f = []
tabulate (suc n) f = tabulate n f ++ f n ∷ []
