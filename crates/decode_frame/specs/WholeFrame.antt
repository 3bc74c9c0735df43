-- Document 01, "A whole frame": the order of work of silk_decode_frame (decode_frame.rs).
use Rattle.std.specs.Prelude.{◌-◌, Bool, cond, List, ◌++◌, ℤ, pos, get_or, take, drop, replicate}
use Rattle.sigproc.specs.Place.{update_out_buf}
use Rattle.shape.specs.Shape.{Shape, frame_length, mem_length, lpc_order}
use Rattle.decoder.specs.Signals.{signal_number}
use Rattle.decoder.specs.Settings.{squelched}
use Rattle.decoder.specs.With.{with_lines, with_out_buf, with_first, with_losses, with_type, with_lag}
use Rattle.decoder.specs.Outcome.{Outcome}
use Rattle.decoder.specs.declared.SilkDecoderState.{SilkDecoderState}
use Rattle.decoder.specs.declared.SilkDecoderControl.{SilkDecoderControl}
use Rattle.decoder.specs.declared.Params.{Params}
use Rattle.decoder.specs.declared.Frame.{Frame}
use Rattle.decoder.specs.declared.Frame.TheVariants.{Received, Lost}
use Rattle.decode_core.specs.Core.{decode_core}
use Rattle.plc.specs.Update.{plc_update}
use Rattle.plc.specs.Conceal.{plc_conceal}
use Rattle.cng.specs.Noise.{comfort_noise}
use Rattle.glue.specs.Glue.{glue_frames}

-- the frame's first order lines into prev_nlsf_q15
unfoldable pub lined : Shape → SilkDecoderState → List ℤ → SilkDecoderState
lined p s lines = with_lines s (take (lpc_order p) lines ++ drop (lpc_order p) s.prev_nlsf_q15)

-- the history moved along by a frame
unfoldable pub remembered : Shape → SilkDecoderState → List ℤ → SilkDecoderState
remembered p s frame = with_out_buf s (update_out_buf s.out_buf (mem_length p) frame)

-- after a received frame: no loss, its type, no first frame
unfoldable pub resumed : SilkDecoderState → ℤ → SilkDecoderState
resumed s type = with_first (with_losses (with_type s type) (pos 0)) (pos 0)

-- lag_prev from the description's last subframe
unfoldable pub lag_kept : Shape → SilkDecoderState → SilkDecoderControl → SilkDecoderState
lag_kept p s c = with_lag s (get_or c.pitch_l (p.subframes - 1) (pos 0))

-- noise, then gluing, then lag_prev
unfoldable pub finished : Shape → Outcome → Outcome
finished p o =
    let noised = comfort_noise p o.state o.control.gains_q16 (frame_length p) o.samples in
    let glued = glue_frames noised.state noised.frame in
    record { state = lag_kept p glued.state o.control; control = o.control; samples = glued.frame }

-- a received frame: lines, core, history, concealment's update, and what the next frame finds
unfoldable pub received : Shape → SilkDecoderState → Params → SilkDecoderControl → List (List ℤ) → List ℤ → List ℤ → Outcome
received p s q c rows lines pulses =
    let o = decode_core p (lined p s lines) q c rows pulses in
    let updated = plc_update p (remembered p o.state o.samples) q.signal o.control rows in
    finished p (record { state = resumed updated (signal_number q.signal); control = o.control; samples = o.samples })

-- a lost frame: concealment and history
unfoldable pub lost : Shape → SilkDecoderState → SilkDecoderControl → Outcome
lost p s c =
    let o = plc_conceal p s c in
    finished p (record { state = remembered p o.state o.samples; control = o.control; samples = o.samples })

-- a frame that plays zeros where it is squelched (document 02, Note 3): all else is as it is
unfoldable pub muted : Shape → Bool → Outcome → Outcome
muted p b o =
    record { state = o.state; control = o.control; samples = cond b (replicate (frame_length p) (pos 0)) o.samples }

unfoldable pub whole_frame : Shape → SilkDecoderState → Frame → SilkDecoderControl → List (List ℤ) → List ℤ → List ℤ → Outcome
whole_frame p s (Received q) c rows lines pulses = received p s q c rows lines pulses
whole_frame p s Lost c rows lines pulses = muted p (squelched s) (lost p s c)
