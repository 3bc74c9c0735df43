use mathlib.Core.Path.{◌≡◌}
use mathlib.Core.List.{◌++◌}
use lib.IntN.{pos}
use lib.ListN.{length, take, drop, replicate}
use Rattle.word.specs.Tabulate.{tabulate}
use Rattle.shape.specs.Order.{size}
use Rattle.nlsf.specs.Lines.{lpc_coefficient}
use Rattle.nlsf.proofs.lpc_coefficients.Given as goal

abbrev pub invariant-loop-i : goal.invariant-loop-i
invariant-loop-i l =
    let d = size l.fn.order in
    (length l.x-items ≡ d) × (l.x-items ≡ tabulate l.i (lpc_coefficient l.p l.q d) ++ drop l.i (take d (replicate 16 (pos 0))))
