use Prim.Native.Nat.{◌+◌, ◌≤◌, ◌-◌}
use mathlib.Core.Path.{◌≡◌}
use mathlib.Core.List.{List}
use lib.IntN.{ℤ}
use lib.ListN.{length, take}
use Rattle.plc.specs.Conceal.{Voice, excited_times}
use Rattle.plc.proofs.conceal.excite.Given as goal

-- what the loop starts from; nothing in it reads the pitch
abbrev pub begun : List ℤ → List ℤ → ℤ → ℤ → ℤ → Voice
begun past taps scale seed pitch =
    record { past = past; taps = taps; scale = scale; pitch = pitch; seed = seed }

abbrev pub invariant-loop-i : goal.invariant-loop-i
invariant-loop-i l =
    (l.i ≤ l.n) × (length l.buf ≡ length l.initial.buf)
    × ((z : ℤ) → l.seed ≡ (excited_times l.noise 0 l.lag l.i (begun (take l.at l.initial.buf) l.taps l.scale l.initial.seed z)).seed)
    × ((z : ℤ) → take (l.at + l.i) l.buf ≡ (excited_times l.noise 0 l.lag l.i (begun (take l.at l.initial.buf) l.taps l.scale l.initial.seed z)).past)

abbrev pub decreases-loop-i : goal.decreases-loop-i
decreases-loop-i l = l.n - l.i
