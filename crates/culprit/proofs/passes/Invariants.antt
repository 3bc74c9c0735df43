use mathlib.Core.Path.{◌≡◌}
use mathlib.Core.List.{map}
use lib.ListN.{drop}
use Rattle.recording.specs.Frames.{recorded_at}
use Rattle.culprit.specs.Search.{passes}
use Rattle.culprit.proofs.passes.Given as goal

abbrev pub invariant-loop-i : goal.invariant-loop-i
invariant-loop-i l =
    passes l.limit l.khz l.nb_subfr l.initial.state (map (recorded_at l.frames.bytes.now) l.frames.records.now)
    ≡ passes l.limit l.khz l.nb_subfr l.state (map (recorded_at l.frames.bytes.now) (drop l.i-index l.frames.records.now))
