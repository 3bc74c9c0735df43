use Prim.Native.Nat.{◌^◌}
use mathlib.Core.Path.{◌≡◌}
use mathlib.Core.List.{◌++◌, map}
use lib.IntN.{ℤ, pos, ◌*ℤ◌}
use lib.ListN.{length, take, drop}
use Rattle.word.specs.Int.{sat16}
use Rattle.nlsf.specs.Fit.{in_q12}
use Rattle.nlsf.proofs.saturated.Given as goal

abbrev pub back : ℤ → ℤ
back x = sat16 (in_q12 x) *ℤ pos (2 ^ 5)

abbrev pub invariant-loop-x : goal.invariant-loop-x
invariant-loop-x l =
    (length l.a ≡ length l.initial.a) × (l.a ≡ map back (take l.x-index l.initial.a) ++ drop l.x-index l.initial.a)
