-- Demand 2: the excitation that a whole frame leaves in the state is 64 times RFC 6716's.
use Rattle.std.specs.Prelude.{List, ℤ, IfOk}
use Rattle.shape.specs.Shape.{shape}
use Rattle.decoder.specs.declared.SilkDecoderState.{SilkDecoderState}
use Rattle.decoder.specs.declared.SilkDecoderControl.{SilkDecoderControl}
use Rattle.decoder.specs.declared.Params.{Params}
use Rattle.decoder.specs.declared.Frame.TheVariants.{Received}
use Rattle.decode_core.specs.Standard.{HoldsStandard}
use Rattle.decode_frame.specs.Call.{frame_call}
use Rattle.decode_frame.specs.Answer.{frame_answer}

-- of every received frame that is accepted, at its own shape
abbrev pub FrameStandard : Type 0
FrameStandard =
    (s : SilkDecoderState) (khz nb : ℤ) (q : Params) (c : SilkDecoderControl) (rows : List (List ℤ)) (lines pulses output : List ℤ)
    → IfOk (frame_answer s (frame_call khz nb (Received q) c rows lines pulses output)) (λ a. HoldsStandard (shape khz nb) q pulses a.state)
