use Prim.Native.Nat.{ℕ, ◌+◌, ◌-◌, ◌/◌, ◌≤◌}
use mathlib.Core.Path.{◌≡◌}
use mathlib.Core.List.{List}
use lib.IntN.{ℤ, pos}
use lib.ListN.{length, get_or}
use Rattle.word.specs.Int.{wrap32}
use Rattle.stability.specs.Stability.{step_down}
use Rattle.stability.proofs.Ends.{Turned, every, pair}
use Rattle.stability.proofs.step_all.Given as goal

-- coefficient n after the step
abbrev pub down : ℤ → ℤ → ℤ → List ℤ → ℕ → ℕ → ℤ
down rc mult2 q a k n =
    step_down rc mult2 q (get_or a n (pos 0)) (get_or a (k - 1 - n) (pos 0))

abbrev pub invariant-loop-n : goal.invariant-loop-n
invariant-loop-n l =
    (l.n ≤ l.n-end) × (l.n-end ≡ (l.k + 1) / 2) × (length l.a ≡ length l.initial.a)
    × (l.fits ≡ every l.n (pair (down l.rc l.mult2 l.q l.initial.a l.k) l.k)) × Turned (λ i. wrap32 (down l.rc l.mult2 l.q l.initial.a l.k i)) l.initial.a l.a l.k l.n

abbrev pub decreases-loop-n : goal.decreases-loop-n
decreases-loop-n l = l.n-end - l.n
