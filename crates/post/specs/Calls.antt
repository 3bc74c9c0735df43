-- What an exported call answers, and what it leaves.
use Rattle.std.specs.Prelude.{Bool, cond, ℤ, pos, negsuc}
use Rattle.refusal.specs.Refusals.{code_of}
use Rattle.slices.specs.Slices.{Slices, Answered}

-- a call's answer, and its slices after it
pub record Called : Type 0 where
  pub answer : ℤ
  pub after : Slices

-- -1 and the slices as lent where one of them is too short, else document 01's number and what the call leaves
unfoldable pub called : Bool → Answered → Slices → Called
called short a lent =
    record { answer = cond short (negsuc 0) (pos (code_of a.judged)); after = cond short lent a.after }
