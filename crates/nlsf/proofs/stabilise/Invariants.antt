use Prim.Native.Nat.{◌-◌, ◌≤◌}
use mathlib.Core.Path.{◌≡◌}
use mathlib.Core.List.{List}
use lib.IntN.{ℤ}
use lib.ListN.{length}
use Rattle.nlsf.specs.Fit.{Fit}
use Rattle.nlsf.specs.Filter.{stabilised}
use Rattle.nlsf.proofs.stabilise.Given as goal

abbrev pub fit : List ℤ → List ℤ → Fit
fit q a = record { q12 = q; q17 = a }

abbrev pub invariant-loop-i : goal.invariant-loop-i
invariant-loop-i l =
    (l.i ≤ 16) × (length l.a_q12 ≡ length l.initial.a) × (length l.a ≡ length l.initial.a) × (stabilised l.edition 16 0 (fit l.initial.a_q12 l.initial.a) ≡ stabilised l.edition (16 - l.i) l.i (fit l.a_q12 l.a))

abbrev pub decreases-loop-i : goal.decreases-loop-i
decreases-loop-i l = 16 - l.i
