use Prim.Native.Nat.{◌≤◌}
use Rattle.play.specs.Play.{total}
use Rattle.play.proofs.play_records.Given as goal

abbrev pub invariant-loop-i : goal.invariant-loop-i
invariant-loop-i g l = total l.t ≤ l.i-counter
