use Rattle.std.proofs.Common.{◌≡◌, length}
use lib.Seq.{paste}
use Rattle.sigproc.proofs.copy_at.Given as goal

abbrev pub invariant-loop-i : goal.invariant-loop-i
invariant-loop-i g l = (length l.dst ≡ length l.initial.dst) × (l.dst ≡ paste l.initial.dst l.at l.src l.i)
