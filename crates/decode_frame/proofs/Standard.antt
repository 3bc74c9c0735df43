-- The excitation that a whole frame leaves in the state is core's.
use mathlib.Core.Path.{◌≡◌, refl, ap}
use mathlib.Core.List.{List}
use lib.IntN.{ℤ}
use lib.ListN.{length}
use Rattle.std.specs.Prelude.{Ok, Err, IfOk}
use Rattle.refusal.specs.Refusals.{Judged, code_of}
use Rattle.shape.specs.Shape.{Shape, shape}
use Rattle.decoder.specs.Answer.{answer}
use Rattle.decoder.specs.Reshape.{reshaped}
use Rattle.decoder.specs.declared.SilkDecoderState.{SilkDecoderState}
use Rattle.decoder.specs.declared.SilkDecoderControl.{SilkDecoderControl}
use Rattle.decoder.specs.declared.Params.{Params}
use Rattle.decoder.specs.declared.Frame.TheVariants.{Received}
use Rattle.decoder.proofs.Between.{Between}
use Rattle.judge.proofs.Bounds.{received-fits}
use Rattle.decode_core.specs.Standard.{HoldsStandard}
use Rattle.decode_core.proofs.Standard.{holds_standard}
use Rattle.plc.specs.Update.{plc_update}
use Rattle.glue.specs.Glue.{glue_frames}
use Rattle.decode_frame.specs.WholeFrame.{lined, remembered, resumed, lag_kept, received, whole_frame}
use Rattle.decode_frame.specs.Call.{Call, frame_call}
use Rattle.decode_frame.specs.Answer.{frame_refusal, frame_outcome, frame_answer}
use Rattle.decode_frame.specs.Standard.{FrameStandard}
use Rattle.decode_frame.proofs.Finishing.{finished-keeps}

received_standard : (p : Shape) (s : SilkDecoderState) (q : Params) (c : SilkDecoderControl) (rows : List (List ℤ)) (lines pulses : List ℤ) → Between 0 1 q.quant_offset_type
    → HoldsStandard p q pulses (whole_frame p s (Received q) c rows lines pulses).state
unfolding whole_frame received lag_kept glue_frames resumed plc_update remembered
received_standard p s q c rows lines pulses b =
    finished-keeps p _ (HoldsStandard p q pulses) (λ h frame. holds_standard p (lined p s lines) q c rows pulses b)

pub frame_standard : FrameStandard
unfolding frame_answer frame_refusal
frame_standard s khz nb q c rows lines pulses output = go (frame_refusal s x) refl
  where
    x : Call
    x = frame_call khz nb (Received q) c rows lines pulses output

    go : (j : Judged) → frame_refusal s x ≡ j → IfOk (answer j (frame_outcome s x)) (λ a. HoldsStandard (shape khz nb) q pulses a.state)
    go (Ok u) e =
        let f = received-fits khz nb s q c lines (length pulses) (length output) (ap code_of e) in
        received_standard (shape khz nb) (reshaped khz nb s) q c rows lines pulses f.core.params.offset
    go (Err r) e = tt
