-- What a table's test says of each of its rows.
use Prim.Native.Nat.{ℕ, zero, suc, ◌<◌}
use mathlib.Core.Path.{◌≡◌}
use mathlib.Core.Bool.{Bool, true, false, ◌&&◌, ◌||◌}
use mathlib.Core.List.{List, [], ◌∷◌}
use native.Mathlib.Nat.{le_of_suc-le-suc, not-suc-le-zero}
use lib.ListN.{length, get_or}
use Rattle.std.proofs.lemmas.Bool.{and_parts, or_parts}
use Rattle.word.specs.Int.{eq_ℤ}
use Rattle.word.specs.Row.{Row, agree}
use Rattle.word.proofs.Order.{eq_ℤ_true}

-- both of two tests that are true together
pub both : (a b : Bool) → (a && b) ≡ true → (a ≡ true) × (b ≡ true)
both = and_parts

-- neither of two tests, of which none is true
pub neither : (a b : Bool) → (a || b) ≡ false → (a ≡ false) × (b ≡ false)
neither = or_parts

pub row_agrees : (rows : List Row) (k : ℕ) (d : Row) → agree rows ≡ true → k < length rows → (get_or rows k d).computed ≡ (get_or rows k d).outcome
unfolding agree
row_agrees [] k d e h = absurd (not-suc-le-zero h)
row_agrees (r ∷ rs) zero d e h = eq_ℤ_true r.computed r.outcome (both (eq_ℤ r.computed r.outcome) (agree rs) e).0
row_agrees (r ∷ rs) (suc k) d e h = row_agrees rs k d (both (eq_ℤ r.computed r.outcome) (agree rs) e).1 (le_of_suc-le-suc h)
