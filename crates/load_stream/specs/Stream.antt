-- A load as a recorded stream: its header, the bytes of a frame, and what a post plays for it.
use Rattle.std.specs.Prelude.{ℕ, cond, List, [], ◌∷◌, ◌++◌, ℤ, pos, replicate, Result, codes}
use Rattle.word.specs.Int.{mod_ℤ}
use Rattle.refusal.specs.Refusals.{answered}
use Rattle.refusal.specs.declared.Refusal.{Refusal}
use Rattle.shape.specs.Shape.{rate_of}
use Rattle.decoder.specs.declared.SilkDecoderState.{SilkDecoderState}
use Rattle.decode_frame.specs.Call.{Call, frame_call}
use Rattle.decode_frame.specs.Answer.{frame_refusal, frame_outcome, frame_output}
use Rattle.le.specs.Bytes.{bytes_of}
use Rattle.record.specs.Recorded.{Recorded, received, lost, record_bytes}
use Rattle.load.specs.Load.{is_received, params_of, control_of, rows_of, lines_of, pulses_of, frame_of}
use Rattle.record.specs.declared.Sound.{Sound}

-- the first 16 bytes of a stream of n frames (docs/STREAMS.md)
unfoldable pub header_of : ℤ → ℤ → ℤ → List ℕ
header_of rate subframes n = codes "SILKVEC1" ++ (mod_ℤ rate 256 ∷ mod_ℤ subframes 256 ∷ 0 ∷ 0 ∷ []) ++ bytes_of 4 n

-- the frame whose draws follow the generator's value x, as it is recorded if it is received
unfoldable pub received_of : ℤ → ℤ → Recorded
received_of rate x = received (params_of x) (control_of x (rate_of rate)) (rows_of x) (lines_of x) (pulses_of x)

-- its 817 bytes, received or lost
unfoldable pub record_of : ℤ → ℤ → List ℕ
record_of rate x = record_bytes (cond (is_received x) (received_of rate x) lost)

-- that frame on a post in a state
module _ (s : SilkDecoderState) (rate subframes x : ℤ) where
  abbrev pub call : Call
  call =
      frame_call rate subframes (frame_of x) (control_of x (rate_of rate)) (rows_of x) (lines_of x) (pulses_of x) (replicate 320 (pos 0))

  -- the new state and the samples, where it is played
  unfoldable pub heard_of : Result Sound Refusal
  heard_of =
      answered (frame_refusal s call) (record { state = (frame_outcome s call).state; samples = frame_output s call })
