use Prim.Native.Nat.{◌-◌}
use mathlib.Core.Path.{◌≡◌}
use mathlib.Core.List.{map}
use lib.ListN.{length}
use Rattle.recording.specs.Frames.{recorded_at}
use Rattle.culprit.specs.Search.{is_culprit, first_from}
use Rattle.culprit.proofs.Laws.{state_at}
use Rattle.culprit.proofs.first_culprit.Given as goal

abbrev pub invariant-loop-k : goal.invariant-loop-k
invariant-loop-k l =
    (l.state ≡ state_at l.limit l.khz l.nb_subfr l.initial.state (map (recorded_at l.frames.bytes.now) l.frames.records.now) l.k)
    × (first_from (is_culprit l.limit l.khz l.nb_subfr l.initial.state (map (recorded_at l.frames.bytes.now) l.frames.records.now)) 0 (length l.frames.records.now)
    ≡ first_from (is_culprit l.limit l.khz l.nb_subfr l.initial.state (map (recorded_at l.frames.bytes.now) l.frames.records.now)) l.k (length l.frames.records.now - l.k))
