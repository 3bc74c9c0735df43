use Prim.Native.Nat.{ℕ, ◌≤◌}
use mathlib.Core.Path.{◌≡◌}
use mathlib.Core.List.{List, ◌++◌}
use lib.IntN.{ℤ, pos}
use lib.ListN.{length, get_or, drop}
use Rattle.word.specs.Tabulate.{tabulate}
use Rattle.cng.specs.Noise.{smoothed_line}
use Rattle.cng.proofs.smoothed_lines.Given as goal

abbrev pub line : List ℤ → List ℤ → ℕ → ℤ
line held lines i = smoothed_line (get_or held i (pos 0)) (get_or lines i (pos 0))

abbrev pub invariant-loop-i : goal.invariant-loop-i
invariant-loop-i l =
    (l.i ≤ length l.initial.line-items) × (l.line-items ≡ tabulate l.i (line l.initial.line-items l.lines) ++ drop l.i l.initial.line-items)
