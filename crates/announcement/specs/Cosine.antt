-- Document 02, Note 6: an entry of the cosine table as a call.
use Rattle.std.specs.Prelude.{ℕ, cond, ltb, ℤ, Result, Ok, Err}
use Rattle.refusal.specs.declared.Refusal.{Refusal}
use Rattle.refusal.specs.declared.Refusal.TheVariants.{Place}
use Rattle.nlsf.specs.Table.{lsf_cos}

-- entry `place` of the table; row 17: a place above 128
unfoldable pub cosine_at : ℕ → Result ℤ Refusal
cosine_at place = cond (ltb 128 place) (Err Place) (Ok (lsf_cos place))
