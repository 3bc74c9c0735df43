-- silk_plc_glue_frames as a public call on the first `n` samples of a buffer.
use Rattle.std.specs.Prelude.{Result, ℕ, List, ℤ, length, take}
use Rattle.refusal.specs.First.{first_of}
use Rattle.refusal.specs.Refusals.{Judged, answered}
use Rattle.refusal.specs.declared.Refusal.{Refusal}
use Rattle.decoder.specs.Outcome.{Framed}
use Rattle.decoder.specs.Answer.{output}
use Rattle.decoder.specs.declared.SilkDecoderState.{SilkDecoderState}
use Rattle.judge.specs.Rows.{glue_rows}
use Rattle.glue.specs.Glue.{glue_frames}

module _ (s : SilkDecoderState) (buffer : List ℤ) (n : ℕ) where
  unfoldable pub glue_refusal : Judged
  glue_refusal = first_of (glue_rows s (length buffer) n)

  abbrev pub glue_outcome : Framed
  glue_outcome = glue_frames s (take n buffer)

  unfoldable pub glue_answer : Result SilkDecoderState Refusal
  glue_answer = answered glue_refusal glue_outcome.state

  unfoldable pub glue_output : List ℤ
  glue_output = output glue_refusal n glue_outcome.frame buffer
