use Prim.Native.Nat.{ℕ}
use mathlib.Core.Path.{◌≡◌}
use mathlib.Core.List.{◌++◌}
use lib.IntN.{pos}
use lib.ListN.{get_or, drop}
use Rattle.word.specs.Tabulate.{tabulate}
use Rattle.macros.specs.Fixed.{smulww}
use Rattle.decode_core.proofs.adjust.Given as goal

abbrev pub invariant-loop-x : goal.invariant-loop-x
invariant-loop-x l = l.xs ≡ tabulate l.x-index (λ (k : ℕ). smulww l.adj (get_or l.initial.xs k (pos 0))) ++ drop l.x-index l.initial.xs
