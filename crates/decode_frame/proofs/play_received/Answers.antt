use mathlib.Core.Path.{sym, ap, ◌∙◌, subst}
use native.Mathlib.Omega.{arith}
use lib.ListN.{length}
use lib.Seq.{length-take-le}
use mir.Facts.{to_z-of_z}
use Rattle.refusal.proofs.Clear.{accepted}
use Rattle.decoder.specs.Reshape.{reshaped_by, reshaped}
use Rattle.decoder.specs.State.{shape_of}
use Rattle.decoder.specs.declared.SilkDecoderState.{SilkDecoderState}
use Rattle.decoder.specs.declared.Frame.TheVariants.{Received}
use Rattle.judge.proofs.Bounds.{ReceivedFits, received-fits}
use Rattle.decode_core.proofs.Accepts.{framed}
use Rattle.decode_frame.specs.WholeFrame.{received, whole_frame}
use Rattle.decode_frame.specs.Call.{frame_call}
use Rattle.decode_frame.specs.Answer.{frame_refusal}
use Rattle.decode_frame.proofs.Answers.{Reshaped, reshapes, played-answer}
use Rattle.decode_frame.proofs.play_received.Goals.{After-reshape}
use Rattle.decode_frame.proofs.play_received.Goals as goal

-- the frame's length, and the state as the coming shape leaves it
coming : (c : After-reshape) → let a = c.args in Reshaped a.khz a.nb_subfr a.a.now.state c.frame_length-n.result c.reshape.new.s
coming c = reshapes (to_z-of_z c.ranges.khz) (to_z-of_z c.ranges.nb_subfr) c.frame_length-n.ensures c.reshape.ensures

-- what no refusal says of the frame
fit : (c : After-reshape) → let a = c.args in ReceivedFits c.reshape.new.s a.q a.a.now.control a.lines (length a.pulses.now) (length a.xq.now)
unfolding frame_refusal
fit c =
    let a = c.args in
    let m = length a.pulses.now in
    let n = length a.xq.now in
    subst (λ (t : SilkDecoderState). ReceivedFits t a.q a.a.now.control a.lines m n) (sym (coming c).moved) (received-fits a.khz a.nb_subfr a.a.now.state a.q a.a.now.control a.lines m n c.requires)

pub slice_bounds-received-end : goal.slice_bounds-received-end
slice_bounds-received-end c =
    let o = (goal.at.slice_bounds-received-end c).After-reshape in
    let w = (coming o).whole in
    let h = (fit o).core.output_lent in
    omega (arith, w, h)

pub slice_bounds-received-end-2 : goal.slice_bounds-received-end-2
slice_bounds-received-end-2 c =
    let o = (goal.at.slice_bounds-received-end-2 c).After-reshape in
    let w = (coming o).whole in
    let h = (fit o).core.output_lent in
    sym (length-take-le _ _ (omega (arith, w, h)))

pub received-requires : goal.received-requires
received-requires c =
    let o = (goal.at.received-requires c).After-reshape in
    let f = (fit o).core in
    let a = c.args in
    let l = (coming o).whole in
    let h = f.output_lent in
    (f.accepted, framed c.reshape.new.s _ a.a.now.control (length a.pulses.now) (length a.xq.now) f, f.pulses_lent, length-take-le _ _ (omega (arith, l, h)) ∙ l)

pub returns : goal.returns
unfolding whole_frame reshaped reshaped_by
returns c =
    let o = (goal.at.returns c).After-reshape in
    let a = c.args in
    played-answer a.a.now.state (frame_call a.khz a.nb_subfr (Received a.q) a.a.now.control a.rows a.lines a.pulses.now a.xq.now) (sym (accepted _ c.requires)) _ _
    (c.received.ensures ∙ ap (λ (t : SilkDecoderState). received (shape_of t) t a.q a.a.now.control a.rows a.lines a.pulses.now) (coming o).moved)
    (coming o).samples
