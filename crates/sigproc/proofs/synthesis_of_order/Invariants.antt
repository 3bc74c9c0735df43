use Rattle.std.proofs.Common.{◌≡◌, ◌+◌, ◌-◌, ◌≤◌, ◌++◌, length, take, drop}
use Rattle.sigproc.specs.Synthesis.{synthesis}
use Rattle.sigproc.proofs.synthesis_of_order.Given as goal

abbrev pub invariant-loop-i : goal.invariant-loop-i
invariant-loop-i g l =
    (l.i ≤ l.i-end) × (l.i-end + 16 ≡ length l.initial.buf) × (length l.buf ≡ length l.initial.buf)
    × (l.buf ≡ synthesis (take 16 l.initial.buf) (drop 16 l.initial.buf) l.a g.row.ORDER l.i ++ drop (16 + l.i) l.initial.buf)

abbrev pub decreases-loop-i : goal.decreases-loop-i
decreases-loop-i g l = l.i-end - l.i
