use Prim.Native.Nat.{ℕ, ◌≤◌}
use mathlib.Core.Path.{◌≡◌}
use mathlib.Core.List.{List, ◌++◌}
use lib.IntN.{ℤ, pos, ◌+ℤ◌}
use lib.ListN.{length, get_or, drop}
use Rattle.word.specs.Int.{sat16}
use Rattle.word.specs.Tabulate.{tabulate}
use Rattle.sigproc.specs.Synthesis.{played_q10}
use Rattle.cng.proofs.added.Given as goal

abbrev pub sample : List ℤ → List ℤ → ℤ → ℕ → ℤ
sample frame signal gain i = sat16 (get_or frame i (pos 0) +ℤ played_q10 gain (get_or signal i (pos 0)))

abbrev pub invariant-loop-i : goal.invariant-loop-i
invariant-loop-i l =
    (l.i ≤ length l.initial.frame) × (length l.frame ≡ length l.initial.frame)
    × (l.frame ≡ tabulate l.i (sample l.initial.frame l.signal l.gain_q10) ++ drop l.i l.initial.frame)
