-- A check sum of numbers.
use Rattle.std.specs.Prelude.{List, ℤ, pos, ◌+ℤ◌, ◌*ℤ◌, fold}
use Rattle.word.specs.Int.{wrap32}

-- one more number: in 32 bits, times the prime of FNV, and the number added
unfoldable pub mixed : ℤ → ℤ → ℤ
mixed h x = wrap32 (wrap32 (h *ℤ pos 16777619) +ℤ x)

-- from h on, with all of xs, by the number that each stands for
abbrev pub sum_of : {A : Type 0} → (A → ℤ) → ℤ → List A → ℤ
sum_of number h xs = fold (λ s x. mixed s (number x)) h xs
