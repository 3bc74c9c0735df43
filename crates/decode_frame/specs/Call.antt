-- A whole-frame call: what it brings beside the state.
use Rattle.std.specs.Prelude.{List, ℤ}
use Rattle.shape.specs.Shape.{Shape, shape}
use Rattle.decoder.specs.Reshape.{reshaped}
use Rattle.decoder.specs.declared.SilkDecoderState.{SilkDecoderState}
use Rattle.decoder.specs.declared.SilkDecoderControl.{SilkDecoderControl}
use Rattle.decoder.specs.declared.Frame.{Frame}

-- the coming rate and count, a frame, and a description, pulses and an output buffer of its own, whatever they hold
pub record Call : Type 0 where
  pub rate : ℤ
  pub subframes : ℤ
  pub frame : Frame
  pub control : SilkDecoderControl
  pub rows : List (List ℤ)
  pub lines : List ℤ
  pub pulses : List ℤ
  pub output : List ℤ

abbrev pub frame_call : ℤ → ℤ → Frame → SilkDecoderControl → List (List ℤ) → List ℤ → List ℤ → List ℤ → Call
frame_call khz nb f c rows lines pulses output =
    record { rate = khz; subframes = nb; frame = f; control = c; rows = rows; lines = lines; pulses = pulses; output = output }

-- the coming shape, and the state as it leaves it
abbrev pub shape_at : Call → Shape
shape_at x = shape x.rate x.subframes

abbrev pub state_at : SilkDecoderState → Call → SilkDecoderState
state_at s x = reshaped x.rate x.subframes s
