use Prim.Native.Nat.{◌+◌}
use mathlib.Core.Path.{◌≡◌}
use Rattle.shape.specs.Shape.{rate_of}
use Rattle.plc.specs.Update.{strongest}
use Rattle.plc.proofs.update.strongest_subframe.Given as goal

abbrev pub invariant-loop-j : goal.invariant-loop-j
invariant-loop-j l =
    (l.j-iterator.iter.iter.start ≡ 0) × (l.j-iterator.count + l.j-iterator.iter.iter.end ≡ l.subframes)
    × (l.b ≡ strongest (record { rate = rate_of l.khz; subframes = l.subframes }) l.lags l.taps l.pitch l.j-iterator.count)
