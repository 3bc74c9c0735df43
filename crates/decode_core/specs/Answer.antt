-- silk_decode_core as a public call.
use Rattle.std.specs.Prelude.{Result, List, ℤ, length}
use Rattle.refusal.specs.First.{first_of}
use Rattle.refusal.specs.Refusals.{Judged}
use Rattle.refusal.specs.declared.Refusal.{Refusal}
use Rattle.shape.specs.Shape.{frame_length}
use Rattle.decoder.specs.State.{shape_of}
use Rattle.decoder.specs.Outcome.{Outcome}
use Rattle.decoder.specs.Answer.{answer, output}
use Rattle.decoder.specs.declared.Answer.{Answer}
use Rattle.decoder.specs.declared.SilkDecoderState.{SilkDecoderState}
use Rattle.decoder.specs.declared.SilkDecoderControl.{SilkDecoderControl}
use Rattle.decoder.specs.declared.Params.{Params}
use Rattle.judge.specs.Rows.{core_rows}
use Rattle.decode_core.specs.Core.{decode_core}

module _ (s : SilkDecoderState) (q : Params) (c : SilkDecoderControl) (rows : List (List ℤ)) (pulses lent : List ℤ) where
  unfoldable pub core_refusal : Judged
  core_refusal = first_of (core_rows s q c (length pulses) (length lent))

  abbrev pub core_outcome : Outcome
  core_outcome = decode_core (shape_of s) s q c rows pulses

  unfoldable pub core_answer : Result Answer Refusal
  core_answer = answer core_refusal core_outcome

  unfoldable pub core_output : List ℤ
  core_output = output core_refusal (frame_length (shape_of s)) core_outcome.samples lent
