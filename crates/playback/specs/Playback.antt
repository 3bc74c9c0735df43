-- Document 02, Note 9: a recording played by a post that is set up for its shape.
use Rattle.std.specs.Prelude.{ℕ, ◌+◌, ◌-◌, ◌*◌, List, [], ◌∷◌, ◌++◌, ltb, Result, ℤ, pos, length, take, drop, replicate}
use Rattle.edition.specs.Edition.{newer}
use Rattle.refusal.specs.First.{◌gives◌}
use Rattle.refusal.specs.Refusals.{Judged, if_accepted, answered}
use Rattle.refusal.specs.declared.Refusal.{Refusal}
use Rattle.refusal.specs.declared.Refusal.TheVariants.{Record}
use Rattle.shape.specs.Shape.{frame_length}
use Rattle.decoder.specs.SetUp.{state_from}
use Rattle.decoder.specs.declared.Settings.{Settings}
use Rattle.decoder.specs.declared.SilkDecoderState.{SilkDecoderState}
use Rattle.decoder.specs.declared.SilkDecoderControl.{SilkDecoderControl}
use Rattle.decoder.specs.declared.Frame.TheVariants.{Received, Lost}
use Rattle.decode_frame.specs.Call.{Call, frame_call, shape_at}
use Rattle.decode_frame.specs.Answer.{frame_output}
use Rattle.lists.specs.Lists.{state_after}
use Rattle.record.specs.Recorded.{Recorded, lost, received}
use Rattle.chain.specs.Chain.{records_in}
use Rattle.recording.specs.Frames.{rate_in, count_in, frames_in}
use Rattle.recording.specs.Rows.{first_then}
use Rattle.recording.specs.Reading.{read_refusal}
use Rattle.record.specs.declared.Sound.{Sound}
use Rattle.playback.specs.declared.Played.{Played}

-- a lost frame brings a description of zeros
unfoldable pub no_control : SilkDecoderControl
no_control =
    record { pitch_l = replicate 4 (pos 0); gains_q16 = replicate 4 (pos 0); ltp_coef_q14 = replicate 20 (pos 0); ltp_scale_q14 = pos 0 }

-- 320 zeros: the room of the largest frame
unfoldable pub silence : List ℤ
silence = replicate 320 (pos 0)

-- the whole-frame call of a frame at a recording's shape
unfoldable pub call_of : ℤ → ℤ → Recorded → Call
call_of khz nb lost = frame_call khz nb Lost no_control [] [] [] silence
call_of khz nb (received q c rows lines pulses) = frame_call khz nb (Received q) c rows lines pulses silence

-- what a call leaves: the new state, and its buffer
unfoldable pub sound_of : SilkDecoderState → Call → Sound
sound_of s x = record { state = state_after s x; samples = frame_output s x }

-- the frames' samples, 5rn each, from a state
unfoldable pub samples_from : ℤ → ℤ → SilkDecoderState → List Recorded → List ℤ
samples_from khz nb s [] = []
samples_from khz nb s (x ∷ xs) =
    let t = sound_of s (call_of khz nb x) in
    take (frame_length (shape_at (call_of khz nb x))) t.samples ++ samples_from khz nb t.state xs

-- one for a received frame, none for a lost one
unfoldable pub received_one : Recorded → ℕ
received_one lost = 0
received_one (received q c rows lines pulses) = 1

unfoldable pub received_in : List Recorded → ℕ
received_in [] = 0
received_in (x ∷ xs) = received_one x + received_in xs

-- the post: no squelch, and the newer edition
abbrev pub plain : Settings
plain = record { squelch = pos 0; edition = newer }

-- what set-up gives for the shape of an accepted recording
abbrev pub start_of : List ℕ → SilkDecoderState
start_of b = state_from (rate_in b) (count_in b) plain

unfoldable pub played_samples : List ℕ → List ℤ
played_samples b = samples_from (rate_in b) (count_in b) (start_of b) (frames_in b)

-- 21 for less room than the largest frames of so many records need, then what reading answers
unfoldable pub play_refusal : List ℕ → ℕ → Judged
play_refusal b lent = first_then ((ltb lent (320 * (records_in b - 1)) gives Record) ∷ []) (read_refusal b)

-- an answer, and the buffer
pub record Output : Type 0 where
  pub answer : Result Played Refusal
  pub output : List ℤ

-- the frames received and concealed and the samples in front of the rest of the buffer; refused, the buffer as lent
unfoldable pub play_of : List ℕ → List ℤ → Output
play_of b lent =
    let j = play_refusal b (length lent) in
    let xs = frames_in b in
    let n = length (played_samples b) in
    record {
      answer = answered j (record { received = received_in xs; concealed = length xs - received_in xs; samples = n });
      output = if_accepted j (played_samples b ++ drop n lent) lent;
    }
