use mathlib.Core.Path.{◌≡◌}
use Rattle.generator.specs.Leaps.{joined, times, leap_of}
use Rattle.generator.proofs.Joining.{Cut}
use Rattle.generator.proofs.leap_of.Given as goal

abbrev pub invariant-loop-left : goal.invariant-loop-left
invariant-loop-left l = (joined l.all (times l.power l.left) ≡ leap_of l.draws) × Cut l.all × Cut l.power

abbrev pub decreases-loop-left : goal.decreases-loop-left
decreases-loop-left l = l.left
