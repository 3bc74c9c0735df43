-- Document 02, Note 9: every frame of an accepted recording is played.
use Rattle.std.specs.Prelude.{ℕ, ◌≡◌, List, map, Ok}
use Rattle.le.specs.Bytes.{Bytes}
use Rattle.refusal.specs.Refusals.{code_of}
use Rattle.decoder.specs.SetUp.{set_up_with}
use Rattle.recording.specs.Frames.{rate_in, count_in, frames_in}
use Rattle.recording.specs.Reading.{read_refusal}
use Rattle.lists.specs.Lists.{places}
use Rattle.lists.specs.Claims.{Every, Played}
use Rattle.playback.specs.Playback.{plain, call_of, start_of}

-- set-up accepts its shape, and no frame is refused by the post
abbrev pub RecordingPlays : Type 0
RecordingPlays =
    (b : List ℕ) → Bytes b → code_of (read_refusal b) ≡ 0
    → (set_up_with (rate_in b) (count_in b) plain ≡ Ok (start_of b))
    × Every Played (places (start_of b) (map (call_of (rate_in b) (count_in b)) (frames_in b)))
