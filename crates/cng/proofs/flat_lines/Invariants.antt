use Prim.Native.Nat.{◌≤◌}
use mathlib.Core.Path.{◌≡◌}
use mathlib.Core.List.{◌++◌}
use lib.ListN.{length, drop}
use Rattle.word.specs.Tabulate.{tabulate}
use Rattle.shape.specs.Order.{size}
use Rattle.cng.specs.Noise.{flat_line}
use Rattle.cng.proofs.flat_lines.Given as goal

abbrev pub invariant-loop-i : goal.invariant-loop-i
invariant-loop-i l =
    (l.i ≤ length l.initial.line-items) × (l.line-items ≡ tabulate l.i (flat_line (size l.order)) ++ drop l.i l.initial.line-items)
