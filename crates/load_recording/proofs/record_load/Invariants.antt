use Rattle.std.proofs.Common.{◌≡◌, ◌+◌, ◌-◌}
use Rattle.load.specs.Load.{before}
use Rattle.round_trip.specs.Claims.{appends_of, write_of}
use Rattle.load_recording.specs.Frames.{frames_from}
use Rattle.load_recording.proofs.record_load.Given as goal

abbrev pub invariant-loop-i : goal.invariant-loop-i
invariant-loop-i l =
    record {
      last : l.x ≡ before l.seed (l.first + l.i);
      left : write_of l.rate l.subframes l.fn.bytes (frames_from l.rate l.seed l.first l.count)
          ≡ appends_of l.rate l.subframes l.bytes l.i (frames_from l.rate l.seed (l.first + l.i) (l.count - l.i));
    }
