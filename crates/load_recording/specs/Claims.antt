-- Frames of a load are recorded, and read as they were drawn.
use Rattle.std.specs.Prelude.{ℕ, suc, ◌*◌, ◌≤◌, ◌≡◌, true, List, ℤ, length, take}
use Rattle.refusal.specs.Refusals.{code_of}
use Rattle.shape.specs.Shape.{is_rate, is_count}
use Rattle.recording.specs.Frames.{rate_in, count_in, frames_in}
use Rattle.recording.specs.Reading.{read_refusal}
use Rattle.round_trip.specs.Claims.{write_of}
use Rattle.load_recording.specs.Frames.{frames_from}

-- up to 59 frames from any one on are written where bytes for them are lent, and what is written reads back as these frames
abbrev pub LoadRecorded : Type 0
LoadRecorded =
    (khz nb seed : ℤ) (i n : ℕ) (lent : List ℕ) → is_rate khz ≡ true → is_count nb ≡ true → n ≤ 59 → 1024 * suc n ≤ length lent
    → let t = write_of khz nb lent (frames_from khz seed i n) in
    let b = take (1024 * suc n) t.bytes in
    (code_of t.judged ≡ 0) × (code_of (read_refusal b) ≡ 0) × (rate_in b ≡ khz) × (count_in b ≡ nb) × (frames_in b ≡ frames_from khz seed i n)
