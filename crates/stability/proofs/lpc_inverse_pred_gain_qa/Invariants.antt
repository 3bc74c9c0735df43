use Prim.Native.Nat.{◌-◌, ◌≤◌, ◌^◌}
use mathlib.Core.Path.{◌≡◌}
use lib.IntN.{pos}
use lib.ListN.{length}
use Rattle.stability.specs.Stability.{a_limit, steps}
use Rattle.stability.proofs.lpc_inverse_pred_gain_qa.Given as goal

-- the turn that begins is at place k - 1
abbrev pub invariant-loop-k : goal.invariant-loop-k
invariant-loop-k l =
    (l.k ≤ 16) × (length l.a ≡ 16)
    × (steps a_limit l.edition l.fn.a (pos (2 ^ 30)) (l.order - 1) ≡ steps a_limit l.edition l.a l.gain (l.k - 1))
