-- Document 02, Note 9: what is written in order is read, and what is read in order is written.
use Rattle.std.specs.Prelude.{ℕ, zero, suc, ◌-◌, ◌*◌, ◌≤◌, ◌≡◌, true, List, [], ◌∷◌, ◌++◌, map, ℤ, length, take, drop, Ok}
use Rattle.le.specs.Bytes.{Bytes}
use Rattle.refusal.specs.Refusals.{code_of, if_accepted}
use Rattle.shape.specs.Shape.{shape, is_rate, is_count}
use Rattle.record.specs.Recorded.{Recorded}
use Rattle.record.specs.Claims.{TypedRecorded, by_number}
use Rattle.chain.specs.Chain.{records_in, chain_of, on_chain}
use Rattle.recording.specs.Frames.{rate_in, count_in, frames_in, described_all}
use Rattle.recording.specs.Reading.{read_refusal}
use Rattle.recorder.specs.Writing.{Left, recording_bytes, begin_of, has_pulses, append_of}

-- frames written in order behind n frames, each to the bytes that the one before left, up to the first that is refused
unfoldable pub appends_of : ℤ → ℤ → List ℕ → ℕ → List Recorded → Left
appends_of khz nb b n [] = record { judged = Ok tt; bytes = b }
appends_of khz nb b n (x ∷ xs) =
    let t = append_of khz nb b n x in
    if_accepted t.judged (appends_of khz nb t.bytes (suc n) xs) t

-- a recording written into lent bytes
unfoldable pub write_of : ℤ → ℤ → List ℕ → List Recorded → Left
write_of khz nb b xs =
    let t = begin_of khz nb b in
    if_accepted t.judged (appends_of khz nb t.bytes 0 xs) t

-- the bytes of n frames and record 0
abbrev pub size : List Recorded → ℕ
size xs = 1024 * suc (length xs)

-- a claim of each frame
abbrev pub All : (Recorded → Type 0) → List Recorded → Type 0
All P [] = Unit {0}
All P (x ∷ xs) = P x × All P xs

-- what is written is the recording in order, and what is behind it stays
abbrev pub InOrder : Type 0
InOrder =
    (khz nb : ℤ) (lent : List ℕ) (xs : List Recorded) → code_of (write_of khz nb lent xs).judged ≡ 0
    → (write_of khz nb lent xs).bytes ≡ recording_bytes khz nb xs ++ drop (size xs) lent

-- what a writer writes in order reads back as the same frames, a signal type being its number
abbrev pub WrittenIsRead : Type 0
WrittenIsRead =
    (khz nb : ℤ) (lent : List ℕ) (xs : List Recorded) → All TypedRecorded xs → code_of (write_of khz nb lent xs).judged ≡ 0
    → let b = take (size xs) (write_of khz nb lent xs).bytes in
    (code_of (read_refusal b) ≡ 0) × (rate_in b ≡ khz) × (count_in b ≡ nb) × (frames_in b ≡ map by_number xs)

-- up to 59 frames that meet none of rows 5 to 9 are taken where bytes for them are lent
abbrev pub WriterTakes : Type 0
WriterTakes =
    (khz nb : ℤ) (lent : List ℕ) (xs : List Recorded) → is_rate khz ≡ true → is_count nb ≡ true → length xs ≤ 59 → size xs ≤ length lent
    → All (λ x. has_pulses x ≡ true) xs
    → code_of (described_all (shape khz nb) xs) ≡ 0
    → code_of (write_of khz nb lent xs).judged ≡ 0

-- n numbers from i on
unfoldable pub up_from : ℕ → ℕ → List ℕ
up_from i zero = []
up_from i (suc n) = i ∷ up_from (suc i) n

-- a read file whose chain takes all its records in order is written back as the same bytes
abbrev pub ReadIsWritten : Type 0
ReadIsWritten =
    (b : List ℕ) → Bytes b → code_of (read_refusal b) ≡ 0 → on_chain (chain_of b) ≡ up_from 1 (records_in b - 1)
    → recording_bytes (rate_in b) (count_in b) (frames_in b) ≡ b
