-- silk_cng as a public call on the first `n` samples of a buffer.
use Rattle.std.specs.Prelude.{Result, ℕ, List, ℤ, length}
use Rattle.refusal.specs.First.{first_of}
use Rattle.refusal.specs.Refusals.{Judged, if_accepted, answered}
use Rattle.refusal.specs.declared.Refusal.{Refusal}
use Rattle.decoder.specs.State.{shape_of}
use Rattle.decoder.specs.Outcome.{Framed}
use Rattle.decoder.specs.declared.SilkDecoderState.{SilkDecoderState}
use Rattle.decoder.specs.declared.SilkDecoderControl.{SilkDecoderControl}
use Rattle.judge.specs.Rows.{cng_rows}
use Rattle.cng.specs.Noise.{comfort_noise}

module _ (s : SilkDecoderState) (c : SilkDecoderControl) (buffer : List ℤ) (n : ℕ) where
  unfoldable pub cng_refusal : Judged
  cng_refusal = first_of (cng_rows s c (length buffer) n)

  abbrev pub cng_outcome : Framed
  cng_outcome = comfort_noise (shape_of s) s c.gains_q16 n buffer

  unfoldable pub cng_answer : Result SilkDecoderState Refusal
  cng_answer = answered cng_refusal cng_outcome.state

  -- the samples with noise and the rest of what was lent, or all of it
  unfoldable pub cng_output : List ℤ
  cng_output = if_accepted cng_refusal cng_outcome.frame buffer
