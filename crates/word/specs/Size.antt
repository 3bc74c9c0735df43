-- Sizes: how far numbers of a list lie from zero.
use Rattle.std.specs.Prelude.{ℕ, zero, suc, ◌+◌, ◌≤◌, List, ℤ, pos, nat_abs, get_or}

-- the size of element i: its distance from zero
abbrev pub size_at : List ℤ → ℕ → ℕ
size_at xs i = nat_abs (get_or xs i (pos 0))

-- the sizes of the first j elements, added up
unfoldable pub sizes : List ℤ → ℕ → ℕ
sizes a zero = 0
sizes a (suc j) = sizes a j + size_at a j

-- every element lies within M of zero
abbrev pub Bounded : ℕ → List ℤ → Type 0
Bounded M xs = (k : ℕ) → size_at xs k ≤ M
