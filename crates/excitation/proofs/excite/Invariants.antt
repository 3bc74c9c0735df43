use mathlib.Core.Path.{◌≡◌}
use mathlib.Core.List.{◌++◌}
use lib.ListN.{drop}
use Rattle.excitation.specs.Excitation.{generator_at, excitation}
use Rattle.excitation.proofs.excite.Given as goal

abbrev pub invariant-loop-i : goal.invariant-loop-i
invariant-loop-i l =
    (l.g ≡ generator_at l.pulses l.seed l.i) × (l.exc ≡ excitation l.offset l.pulses l.seed l.i ++ drop l.i l.initial.exc)
