-- What a stage gives back.
use Rattle.std.specs.Prelude.{List, ℤ}
use Rattle.decoder.specs.declared.SilkDecoderState.{SilkDecoderState}
use Rattle.decoder.specs.declared.SilkDecoderControl.{SilkDecoderControl}

-- the new state, the new description and the samples of a frame
pub record Outcome : Type 0 where
  pub state : SilkDecoderState
  pub control : SilkDecoderControl
  pub samples : List ℤ

-- the new state and a frame's samples changed in place
pub record Framed : Type 0 where
  pub state : SilkDecoderState
  pub frame : List ℤ
