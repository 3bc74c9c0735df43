use Prim.Native.Nat.{ℕ}
use mathlib.Core.Path.{◌≡◌}
use mathlib.Core.List.{List, ◌++◌}
use lib.IntN.{ℤ, pos}
use lib.ListN.{length, get_or, drop}
use Rattle.word.specs.Tabulate.{tabulate}
use Rattle.macros.specs.Fixed.{smulww}
use Rattle.nlsf.specs.Expand.{factor32}
use Rattle.nlsf.proofs.silk_bwexpander_32.Given as goal

-- coefficient j expanded
abbrev pub expanded : ℤ → List ℤ → ℕ → ℤ
expanded chirp a j = smulww (factor32 chirp j) (get_or a j (pos 0))

abbrev pub invariant-loop-x : goal.invariant-loop-x
invariant-loop-x l =
    (length l.ar ≡ length l.initial.ar) × (l.f ≡ factor32 l.chirp l.x-index) × (l.ar ≡ tabulate l.x-index (expanded l.chirp l.initial.ar) ++ drop l.x-index l.initial.ar)
