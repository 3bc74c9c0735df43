use Prim.Native.Nat.{◌≤◌}
use mathlib.Core.Path.{◌≡◌}
use lib.IntN.{nat_abs}
use Rattle.announcement.specs.Rising.{below, apart_to}
use Rattle.announcement.proofs.is_rising.Given as goal

abbrev pub invariant-loop-line : goal.invariant-loop-line
invariant-loop-line l = (nat_abs l.below ≤ 32768) × (l.below ≡ below l.nlsf l.line-index) × (l.ok ≡ apart_to l.nlsf l.line-index)
