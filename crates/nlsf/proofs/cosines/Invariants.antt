use mathlib.Core.Path.{◌≡◌}
use lib.ListN.{length}
use Rattle.shape.specs.Order.{size}
use Rattle.nlsf.specs.Lines.{cosines}
use Rattle.nlsf.proofs.cosines.Given as goal

abbrev pub invariant-loop-k : goal.invariant-loop-k
invariant-loop-k l = (length l.c ≡ 16) × (l.c ≡ cosines l.nlsf (size l.order) l.k)
