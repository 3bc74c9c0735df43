-- Rows before another judgement.
use Rattle.std.specs.Prelude.{cond, List, [], ◌∷◌, Err}
use Rattle.refusal.specs.First.{Row}
use Rattle.refusal.specs.Refusals.{Judged}

-- the first of the rows that applies, and where none does, what else is judged
unfoldable pub first_then : List Row → Judged → Judged
first_then [] other = other
first_then (r ∷ rs) other = cond r.applies (Err r.refusal) (first_then rs other)
