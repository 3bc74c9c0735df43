-- Document 01: "The first that applies, by number, is returned".
use Rattle.std.specs.Prelude.{Bool, cond, List, [], ◌∷◌, leb, Ok, Err}
use Rattle.refusal.specs.Refusals.{refusal_number, Judged}
use Rattle.refusal.specs.declared.Refusal.{Refusal}

infix 70 ◌gives◌
-- a row of the table: whether it applies to a call, and what is then returned
pub record Row : Type 0 where
  pub applies : Bool
  pub refusal : Refusal

abbrev pub ◌gives◌ : Bool → Refusal → Row
b gives r = record { applies = b; refusal = r }

-- the first of the rows that applies, if one does
unfoldable pub first_of : List Row → Judged
first_of [] = Ok tt
first_of (r ∷ rs) = cond r.applies (Err r.refusal) (first_of rs)

-- of two judgements the one with the smaller number, and the other where one refuses nothing
abbrev pub earlier : Judged → Judged → Judged
earlier (Ok u) b = b
earlier (Err r) (Ok u) = Err r
earlier (Err r) (Err t) = cond (leb (refusal_number r) (refusal_number t)) (Err r) (Err t)
