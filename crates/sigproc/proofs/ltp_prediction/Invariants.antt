use Rattle.std.proofs.Common.{◌≡◌, ◌-◌, ◌≤◌}
use Rattle.sigproc.specs.Synthesis.{ltp_prediction}
use Rattle.sigproc.proofs.ltp_prediction.Given as goal

abbrev pub invariant-loop-j : goal.invariant-loop-j
invariant-loop-j l = (l.j ≤ 5) × (l.sum ≡ ltp_prediction l.past l.taps l.p l.j)

abbrev pub decreases-loop-j : goal.decreases-loop-j
decreases-loop-j l = 5 - l.j
