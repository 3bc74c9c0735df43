-- A record played, and the count of frames.
use Rattle.std.specs.Prelude.{ℕ, ◌+◌, List, ℤ, pos, replicate, Result, Ok, Err}
use Rattle.refusal.specs.declared.Refusal.{Refusal}
use Rattle.decoder.specs.declared.SilkDecoderState.{SilkDecoderState}
use Rattle.decoder.specs.declared.Frame.{Frame}
use Rattle.decode_frame.specs.Call.{Call, frame_call}
use Rattle.decode_frame.specs.Answer.{frame_answer, frame_output}
use Rattle.decoder.specs.declared.Answer.{Answer}
use Rattle.std.specs.Int.{w16}
use Rattle.le.specs.Bytes.{packed}
use Rattle.record.specs.Record.{frame_in, control_in, rows_in, lines_in, pulses_in}
use Rattle.play.specs.declared.Sound.{Sound}
use Rattle.play.specs.declared.Tally.{Tally}
use Rattle.play.specs.declared.Ended.{Ended}
use Rattle.play.specs.declared.Ended.TheVariants.{Received, Concealed, Refused}

-- the largest frame, silent
abbrev pub silent : List ℤ
silent = replicate 320 (pos 0)

-- a record of a stream with a rate and a count of subframes
module _ (s : SilkDecoderState) (rate subframes : ℤ) (b : List ℕ) where
  -- the call that it brings
  abbrev pub call_in : Call
  call_in = frame_call rate subframes (frame_in b) (control_in b) (rows_in b) (lines_in b) (pulses_in b) silent

  unfoldable pub answer : Result Answer Refusal
  answer = frame_answer s call_in

  -- a refused frame leaves the silence
  unfoldable pub sound_of : Sound
  sound_of =
      record {
        answer = answer;
        bytes = packed w16 (frame_output s call_in) 320;
      }

-- what became of a frame that was answered so
abbrev pub how_of : Frame → Result Answer Refusal → Ended
how_of Frame.Lost (Ok a) = Concealed
how_of (Frame.Received q) (Ok a) = Received
how_of frame (Err r) = Refused r

-- the frames counted
abbrev pub total : Tally → ℕ
total t = t.received + t.concealed + t.refused

-- one frame more
abbrev pub counted_of : Tally → Ended → Tally
counted_of t Received = record { received = t.received + 1; concealed = t.concealed; refused = t.refused }
counted_of t Concealed = record { received = t.received; concealed = t.concealed + 1; refused = t.refused }
counted_of t (Refused r) = record { received = t.received; concealed = t.concealed; refused = t.refused + 1 }
