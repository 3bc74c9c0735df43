-- What a call answers and leaves: refused, an output buffer as it was lent.
use Rattle.std.specs.Prelude.{ℕ, List, ◌++◌, ℤ, drop, Result}
use Rattle.refusal.specs.Refusals.{Judged, if_accepted, answered}
use Rattle.refusal.specs.declared.Refusal.{Refusal}
use Rattle.decoder.specs.Outcome.{Outcome}
use Rattle.decoder.specs.declared.Answer.{Answer}

module _ (j : Judged) where
  -- of a call that gives a new state and a new description
  abbrev pub answer : Outcome → Result Answer Refusal
  answer o = answered j (record { state = o.state; control = o.control })

  -- n samples in front of the rest of the buffer that was lent
  abbrev pub output : ℕ → List ℤ → List ℤ → List ℤ
  output n samples lent = if_accepted j (samples ++ drop n lent) lent
