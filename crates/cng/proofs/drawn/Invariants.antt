use Prim.Native.Nat.{ℕ, suc, ◌+◌, ◌^◌, ◌≤◌}
use mathlib.Core.Path.{◌≡◌}
use mathlib.Core.List.{List, ◌++◌}
use lib.IntN.{ℤ, pos}
use lib.ListN.{length, get_or, drop}
use Rattle.word.specs.Int.{floor_div, mod_ℤ}
use Rattle.word.specs.Tabulate.{tabulate}
use Rattle.cng.specs.Noise.{seed_at}
use Rattle.cng.proofs.drawn.Given as goal

abbrev pub value : List ℤ → ℕ → ℤ → ℕ → ℤ
value exc mask seed i = get_or exc (mod_ℤ (floor_div (seed_at seed (suc i)) (2 ^ 24)) (mask + 1)) (pos 0)

abbrev pub invariant-loop-x : goal.invariant-loop-x
invariant-loop-x l =
    (l.x-index ≤ length l.initial.out) × (length l.out ≡ length l.initial.out) × (l.s ≡ seed_at l.seed l.x-index)
    × (l.out ≡ tabulate l.x-index (value l.exc l.mask l.seed) ++ drop l.x-index l.initial.out)
