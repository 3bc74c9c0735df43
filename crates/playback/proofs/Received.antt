-- A record's kind, 1 where its frame was received, and the records of received frames.
use Prim.Native.Nat.{ℕ, ◌+◌, ◌*◌}
use mathlib.Core.Path.{◌≡◌, refl}
use mathlib.Core.Bool.{Bool, true, false, cond}
use mathlib.Core.List.{List, [], ◌∷◌, map}
use native.Mathlib.Omega.{arith}
use lib.ListN.{length, drop}
use Rattle.std.specs.List.{filter}
use Rattle.record.specs.Record.{is_received, params_in, control_in, rows_in, lines_in, pulses_in}
use Rattle.record.specs.Recorded.{lost, received, recorded_in}
use Rattle.recording.specs.Frames.{recorded_at}
use Rattle.playback.specs.Playback.{received_one, received_in}

kind_in : (d : List ℕ) → received_one (recorded_in d) ≡ cond (is_received d) 1 0
unfolding recorded_in received_one
kind_in d = go (is_received d)
  where
    go : (t : Bool) → received_one (cond t (received (params_in d) (control_in d) (rows_in d) (lines_in d) (pulses_in d)) lost) ≡ cond t 1 0
    go true = refl
    go false = refl

-- the frame of record i was received
abbrev pub was_received : List ℕ → ℕ → Bool
was_received b i = is_received (drop (1024 * i + 2) b)

pub received_each : (b r : List ℕ) → length (filter (was_received b) r) ≡ received_in (map (recorded_at b) r)
unfolding received_in recorded_at
received_each b [] = refl
received_each b (i ∷ is) = rw (kind_in (drop (1024 * i + 2) b)) (go (was_received b i) (received_each b is))
  where
    go : (t : Bool) → length (filter (was_received b) is) ≡ received_in (map (recorded_at b) is)
        → length (cond t (i ∷ filter (was_received b) is) (filter (was_received b) is)) ≡ cond t 1 0 + received_in (map (recorded_at b) is)
    go true h = omega (arith, h)
    go false h = omega (arith, h)
