use Prim.Native.Nat.{◌+◌}
use mathlib.Core.Path.{◌≡◌}
use mathlib.Core.List.{◌++◌}
use lib.ListN.{take, drop}
use Rattle.decode_core.specs.Core.{ltp_past, ltp_synthesis}
use Rattle.decode_core.proofs.ltp_synthesis.Given as goal

abbrev pub invariant-loop-i : goal.invariant-loop-i
invariant-loop-i l =
    (l.past ≡ ltp_past (take l.idx l.initial.past) l.taps l.lag l.initial.res l.i ++ drop (l.idx + l.i) l.initial.past)
    × (l.res ≡ ltp_synthesis (take l.idx l.initial.past) l.taps l.lag l.initial.res l.i ++ drop l.i l.initial.res)
