use Prim.Native.Nat.{◌*◌, ◌≤◌}
use mathlib.Core.Path.{◌≡◌}
use lib.ListN.{length}
use Rattle.shape.specs.Shape.{shape, frame_length}
use Rattle.playback.proofs.Frames.{Played}
use Rattle.playback.proofs.play_frames.Given as goal

abbrev pub invariant-loop-k : goal.invariant-loop-k
invariant-loop-k l =
    (length l.output ≡ length l.initial.output) × (l.size ≡ frame_length (shape l.rate l.subframes)) × (l.size ≤ 320)
    × Played l.rate l.subframes l.initial.state l.frames.bytes.now l.frames.records.now l.initial.output l.output l.state (l.k * l.size) l.k
