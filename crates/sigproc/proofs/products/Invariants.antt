use Rattle.std.proofs.Common.{◌≡◌}
use Rattle.sigproc.specs.Analysis.{products}
use Rattle.sigproc.proofs.products.Given as goal

abbrev pub invariant-loop-j : goal.invariant-loop-j
invariant-loop-j l = l.sum ≡ products l.x l.b l.i l.j
