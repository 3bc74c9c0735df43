-- Document 02, Note 9: a recording as it is written, and why a frame is not taken.
use Rattle.std.specs.Prelude.{ℕ, suc, ◌+◌, ◌*◌, Bool, true, not, ◌&&◌, List, [], ◌∷◌, ◌++◌, leb, ltb, ℤ, pos, length, replicate, codes}
use Rattle.word.specs.Int.{eq_ℤ}
use Rattle.le.specs.Bytes.{bytes_of, with_bytes}
use Rattle.refusal.specs.First.{Row, ◌gives◌, first_of}
use Rattle.refusal.specs.Refusals.{Judged, if_accepted}
use Rattle.refusal.specs.declared.Refusal.TheVariants.{Rate, Size, Record}
use Rattle.shape.specs.Shape.{shape, is_rate, is_count}
use Rattle.record.specs.Recorded.{Recorded, lost, received, record_bytes}
use Rattle.recording.specs.Rows.{first_then}
use Rattle.recording.specs.Frames.{is_head, rate_in, count_in, described}

-- record 0, which leads to record k: its next number, YARD, rate, subframes, and zeros
unfoldable pub head_bytes : ℕ → ℤ → ℤ → List ℕ
head_bytes k khz nb = bytes_of 2 (pos k) ++ codes "YARD" ++ bytes_of 1 khz ++ bytes_of 1 nb ++ replicate 1016 0

-- a frame's record, which leads to record k: its next number, the frame, and zeros
unfoldable pub frame_bytes : ℕ → Recorded → List ℕ
frame_bytes k x = bytes_of 2 (pos k) ++ record_bytes x ++ replicate 205 0

-- the number of the next record: i where frames are left, else `end`
unfoldable pub link_to : ℕ → ℕ → List Recorded → ℕ
link_to end i [] = end
link_to end i (x ∷ xs) = i

-- the frames' records from record i on, each leading to the next, and the last to `end`
unfoldable pub frames_to : ℕ → ℕ → List Recorded → List ℕ
frames_to end i [] = []
frames_to end i (x ∷ xs) = frame_bytes (link_to end (suc i) xs) x ++ frames_to end (suc i) xs

unfoldable pub recording_to : ℕ → ℤ → ℤ → List Recorded → List ℕ
recording_to end khz nb xs = head_bytes (link_to end 1 xs) khz nb ++ frames_to end 1 xs

-- a recording in order: zero ends the chain
abbrev pub recording_bytes : ℤ → ℤ → List Recorded → List ℕ
recording_bytes khz nb xs = recording_to 0 khz nb xs

-- how a call is judged, and the bytes that it leaves
pub record Left : Type 0 where
  pub judged : Judged
  pub bytes : List ℕ

abbrev pub left : Judged → List ℕ → List ℕ → Left
left j new old = record { judged = j; bytes = if_accepted j new old }

-- a recording of no frames: 21 for too few bytes, then 1 and 2
unfoldable pub begin_refusal : ℤ → ℤ → List ℕ → Judged
begin_refusal khz nb b =
    first_of ((ltb (length b) 1024 gives Record) ∷ (not (is_rate khz) gives Rate) ∷ (not (is_count nb) gives Size) ∷ [])

unfoldable pub begin_of : ℤ → ℤ → List ℕ → Left
begin_of khz nb b = left (begin_refusal khz nb b) (with_bytes b 0 (head_bytes 0 khz nb)) b

-- a received frame is lent 320 pulses
unfoldable pub has_pulses : Recorded → Bool
has_pulses lost = true
has_pulses (received q c rows lines pulses) = leb 320 (length pulses)

-- so many bytes have room for one frame more behind n frames: for n + 2 records, at most 60
unfoldable pub has_room : ℕ → ℕ → Bool
has_room lent n = leb (n + 2) 60 && leb (1024 * (n + 2)) lent

-- a recording's record 0 with this rate and this count, else 21, 1 or 2
abbrev pub head_rows : ℤ → ℤ → List ℕ → List Row
head_rows khz nb b =
    (not (is_head b) gives Record)
    ∷ (not (is_rate (rate_in b) && eq_ℤ khz (rate_in b)) gives Rate)
    ∷ (not (is_count (count_in b) && eq_ℤ nb (count_in b)) gives Size)
    ∷ []

-- one frame more behind n frames: 21 for the room and the pulses, then record 0, and last 5 to 9
unfoldable pub append_refusal : ℤ → ℤ → List ℕ → ℕ → Recorded → Judged
append_refusal khz nb b n x =
    first_then ((not (has_room (length b) n && has_pulses x) gives Record) ∷ head_rows khz nb b) (described (shape khz nb) x)

-- record n leads to record n + 1, which is the new frame's, the last
unfoldable pub appended : List ℕ → ℕ → Recorded → List ℕ
appended b n x = with_bytes (with_bytes b (1024 * n) (bytes_of 2 (pos (suc n)))) (1024 * suc n) (frame_bytes 0 x)

unfoldable pub append_of : ℤ → ℤ → List ℕ → ℕ → Recorded → Left
append_of khz nb b n x = left (append_refusal khz nb b n x) (appended b n x) b
