-- silk_plc as public calls, for a received and for a lost frame.
use Rattle.std.specs.Prelude.{Result, List, ℤ, length}
use Rattle.refusal.specs.First.{first_of}
use Rattle.refusal.specs.Refusals.{Judged, answered}
use Rattle.refusal.specs.declared.Refusal.{Refusal}
use Rattle.shape.specs.Shape.{frame_length}
use Rattle.decoder.specs.State.{shape_of}
use Rattle.decoder.specs.Outcome.{Outcome}
use Rattle.decoder.specs.Answer.{answer, output}
use Rattle.decoder.specs.declared.Answer.{Answer}
use Rattle.decoder.specs.declared.SilkDecoderState.{SilkDecoderState}
use Rattle.decoder.specs.declared.SilkDecoderControl.{SilkDecoderControl}
use Rattle.decoder.specs.declared.Params.{Params}
use Rattle.judge.specs.Rows.{plc_received_rows, plc_lost_rows}
use Rattle.plc.specs.Update.{plc_update}
use Rattle.plc.specs.Conceal.{plc_conceal}

-- a received frame
unfoldable pub plc_received : SilkDecoderState → Params → SilkDecoderControl → List (List ℤ) → Result SilkDecoderState Refusal
plc_received s q c rows = answered (first_of (plc_received_rows s q c)) (plc_update (shape_of s) s q.signal c rows)

-- a lost frame
module _ (s : SilkDecoderState) (c : SilkDecoderControl) (lent : List ℤ) where
  unfoldable pub plc_lost_refusal : Judged
  plc_lost_refusal = first_of (plc_lost_rows s (length lent))

  abbrev pub plc_lost_outcome : Outcome
  plc_lost_outcome = plc_conceal (shape_of s) s c

  unfoldable pub plc_lost : Result Answer Refusal
  plc_lost = answer plc_lost_refusal plc_lost_outcome

  unfoldable pub plc_lost_output : List ℤ
  plc_lost_output = output plc_lost_refusal (frame_length (shape_of s)) plc_lost_outcome.samples lent
