-- The whole frame as a public call.
use Rattle.std.specs.Prelude.{Result, Ok, Err, List, ℤ, length}
use Rattle.refusal.specs.First.{first_of}
use Rattle.refusal.specs.Refusals.{Judged}
use Rattle.refusal.specs.declared.Refusal.{Refusal}
use Rattle.shape.specs.Shape.{frame_length}
use Rattle.decoder.specs.Outcome.{Outcome}
use Rattle.decoder.specs.Answer.{answer, output}
use Rattle.decoder.specs.declared.Answer.{Answer}
use Rattle.decoder.specs.declared.SilkDecoderState.{SilkDecoderState}
use Rattle.judge.specs.Rows.{frame_rows}
use Rattle.decode_frame.specs.WholeFrame.{whole_frame}
use Rattle.decode_frame.specs.Call.{Call, shape_at, state_at}

module _ (s : SilkDecoderState) (x : Call) where
  unfoldable pub frame_refusal : Judged
  frame_refusal =
      first_of (frame_rows x.rate x.subframes s x.frame x.control x.lines (length x.pulses) (length x.output))

  -- a frame of the coming shape on the state as it leaves it
  abbrev pub frame_outcome : Outcome
  frame_outcome = whole_frame (shape_at x) (state_at s x) x.frame x.control x.rows x.lines x.pulses

  unfoldable pub frame_answer : Result Answer Refusal
  frame_answer = answer frame_refusal frame_outcome

  unfoldable pub frame_output : List ℤ
  frame_output = output frame_refusal (frame_length (shape_at x)) frame_outcome.samples x.output

-- the state after a call on s: a refused call leaves s
abbrev pub state_left : SilkDecoderState → Result Answer Refusal → SilkDecoderState
state_left s (Ok a) = a.state
state_left s (Err r) = s
