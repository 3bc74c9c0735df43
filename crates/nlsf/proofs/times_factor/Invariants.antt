use Prim.Native.Nat.{◌≤◌}
use mathlib.Core.Path.{◌≡◌}
use mathlib.Core.List.{◌++◌}
use lib.ListN.{length, take, drop}
use Rattle.word.specs.Tabulate.{tabulate}
use Rattle.nlsf.specs.Lines.{times_factor}
use Rattle.nlsf.proofs.times_factor.Given as goal

-- the turn that begins is at place n - 1
abbrev pub invariant-loop-n : goal.invariant-loop-n
invariant-loop-n l =
    (2 ≤ l.n) × (l.n ≤ length l.initial.p) × (length l.p ≡ length l.initial.p)
    × (l.p ≡ take l.n l.initial.p ++ drop l.n (tabulate (length l.initial.p) (times_factor l.f l.initial.p)))
