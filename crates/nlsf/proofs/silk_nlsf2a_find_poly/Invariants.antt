use Prim.Native.Nat.{◌+◌, ◌-◌, ◌≤◌}
use mathlib.Core.Path.{◌≡◌}
use mathlib.Core.List.{◌++◌}
use lib.IntN.{pos}
use lib.ListN.{length, drop, replicate}
use Rattle.nlsf.specs.Lines.{poly}
use Rattle.nlsf.proofs.silk_nlsf2a_find_poly.Given as goal

abbrev pub invariant-loop-k : goal.invariant-loop-k
invariant-loop-k l =
    (l.k ≤ l.k-end) × (l.k-end ≡ l.dd - 1) × (length l.p ≡ 9) × (l.p ≡ poly l.c l.s l.k ++ drop (l.k + 2) (replicate 9 (pos 0)))

abbrev pub decreases-loop-k : goal.decreases-loop-k
decreases-loop-k l = l.k-end - l.k
