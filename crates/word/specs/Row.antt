-- A table of computed outcomes beside the outcomes that document 01 prints ("The post's test bench").
use Rattle.std.specs.Prelude.{Bool, true, ◌&&◌, List, [], ◌∷◌, ℤ}
use Rattle.word.specs.Int.{eq_ℤ}

-- a row: what the definitions compute, and what document 01 says
pub record Row : Type 0 where
  pub computed : ℤ
  pub outcome : ℤ

abbrev pub row : ℤ → ℤ → Row
row c o = record { computed = c; outcome = o }

-- every row of the table comes out as document 01 says
unfoldable pub agree : List Row → Bool
agree [] = true
agree (r ∷ rs) = eq_ℤ r.computed r.outcome && agree rs
