-- What the calls that write a recording answer and leave in its bytes. One that isn't answered by 0 leaves them as lent.
use Rattle.std.specs.Prelude.{ℕ, List, ℤ, pos, length}
use Rattle.refusal.specs.Refusals.{Judged, code_of, if_accepted}
use Rattle.decoder.specs.declared.Frame.{Frame}
use Rattle.decoder.specs.declared.Frame.TheVariants.{Received, Lost}
use Rattle.layout.specs.Frame.{frame_in, rate_in, subframes_in, control_in, rows_in, lines_in}
use Rattle.record.specs.Recorded.{Recorded, lost, received}
use Rattle.recorder.specs.Writing.{begin_refusal, begin_of, append_refusal, appended}
use Rattle.post_recording.specs.Sizes.{short_numbers, sized}

-- the answer, and the bytes
pub record Written : Type 0 where
  pub answer : ℤ
  pub bytes : List ℕ

-- a recording of no frames; too few bytes are refused by 21
unfoldable pub begin_call : List ℕ → ℤ → ℤ → Written
begin_call b khz nb = record { answer = pos (code_of (begin_refusal khz nb b)); bytes = (begin_of khz nb b).bytes }

-- a frame that numbers hold, as it is recorded
unfoldable pub recorded_of : Frame → List ℤ → List ℤ → List ℤ → Recorded
recorded_of Lost frame coefs pulses = lost
recorded_of (Received q) frame coefs pulses = received q (control_in frame coefs) (rows_in coefs) (lines_in coefs) pulses

abbrev pub lent : List ℤ → List ℤ → List ℤ → Recorded
lent frame coefs pulses = recorded_of (frame_in frame) frame coefs pulses

-- the frame's rate and count are record 0's, else 1 or 2
unfoldable pub append_judged : List ℕ → ℕ → List ℤ → List ℤ → List ℤ → Judged
append_judged b n frame coefs pulses =
    sized (short_numbers (length frame) (length coefs)) (append_refusal (rate_in frame) (subframes_in frame) b n (lent frame coefs pulses))

-- one frame more behind n frames
unfoldable pub append_call : List ℕ → ℕ → List ℤ → List ℤ → List ℤ → Written
append_call b n frame coefs pulses =
    let j = append_judged b n frame coefs pulses in
    record { answer = pos (code_of j); bytes = if_accepted j (appended b n (lent frame coefs pulses)) b }
