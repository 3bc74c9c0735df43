use mathlib.Core.Path.{◌≡◌}
use mathlib.Core.List.{map, reverse}
use Rattle.shape.specs.Shape.{shape}
use Rattle.recording.specs.Frames.{recorded_at, described_all}
use Rattle.recording.proofs.described_all.Given as goal

abbrev pub invariant-loop-i : goal.invariant-loop-i
invariant-loop-i l = l.worst ≡ described_all (shape l.khz l.nb_subfr) (map (recorded_at l.frames.bytes.now) (reverse (map (λ r. r.now) l.yielded)))
