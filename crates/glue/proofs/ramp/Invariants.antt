use mathlib.Core.Path.{◌≡◌}
use mathlib.Core.List.{◌++◌}
use lib.ListN.{take, drop}
use Rattle.glue.specs.Glue.{ramped}
use Rattle.glue.proofs.ramp.Given as goal

abbrev pub invariant-loop-x : goal.invariant-loop-x
invariant-loop-x l = ramped l.gain l.slope l.initial.frame ≡ take l.x-index l.frame ++ ramped l.g l.slope (drop l.x-index l.frame)
