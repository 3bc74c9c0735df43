use Rattle.std.proofs.Common.{◌≡◌, ◌+◌, ◌++◌, length, drop}
use Rattle.word.specs.Tabulate.{tabulate}
use Rattle.sigproc.specs.Analysis.{residual}
use Rattle.sigproc.proofs.analysis_filter.Given as goal

abbrev pub invariant-loop-i : goal.invariant-loop-i
invariant-loop-i g l =
    let d = g.row.ORDER in
    (length l.x-items ≡ length l.initial.x-items) × (l.x-items ≡ tabulate l.i (λ j. residual l.input l.b d (d + j)) ++ drop l.i l.initial.x-items)
