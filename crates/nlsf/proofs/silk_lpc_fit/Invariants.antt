use Prim.Native.Nat.{◌-◌, ◌≤◌}
use mathlib.Core.Path.{◌≡◌}
use lib.ListN.{length}
use Rattle.nlsf.specs.Fit.{lpc_fit}
use Rattle.nlsf.proofs.silk_lpc_fit.Given as goal

abbrev pub invariant-loop : goal.invariant-loop
invariant-loop l =
    (l.counter ≤ 10) × (length l.a_q12 ≡ length l.initial.a) × (length l.a ≡ length l.initial.a) × (lpc_fit 10 l.initial.a ≡ lpc_fit (10 - l.counter) l.a)

abbrev pub decreases-loop : goal.decreases-loop
decreases-loop l = 10 - l.counter
