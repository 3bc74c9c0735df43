use mathlib.Core.Path.{sym, ap, ◌∙◌, subst}
use mathlib.Core.List.{[]}
use native.Mathlib.Omega.{arith}
use lib.ListN.{length}
use lib.Seq.{length-take-le}
use mir.Facts.{to_z-of_z}
use Rattle.refusal.proofs.Clear.{accepted}
use Rattle.decoder.specs.Settings.{squelched}
use Rattle.decoder.specs.Reshape.{reshaped_by, reshaped}
use Rattle.decoder.specs.State.{shape_of}
use Rattle.decoder.specs.declared.SilkDecoderState.{SilkDecoderState}
use Rattle.decoder.specs.declared.Frame.TheVariants.{Lost}
use Rattle.judge.proofs.Bounds.{LostFits, lost-fits}
use Rattle.decode_frame.specs.WholeFrame.{lost, muted, whole_frame}
use Rattle.decode_frame.specs.Call.{frame_call}
use Rattle.decode_frame.specs.Answer.{frame_refusal}
use Rattle.decode_frame.proofs.Answers.{Reshaped, reshapes, played-answer}
use Rattle.decode_frame.proofs.play_lost.Goals.{After-reshape}
use Rattle.decode_frame.proofs.play_lost.Goals as goal

-- the frame's length, and the state as the coming shape leaves it
coming : (c : After-reshape) → let a = c.args in Reshaped a.khz a.nb_subfr a.a.now.state c.frame_length-n.result c.reshape.new.s
coming c = reshapes (to_z-of_z c.ranges.khz) (to_z-of_z c.ranges.nb_subfr) c.frame_length-n.ensures c.reshape.ensures

-- what no refusal says of the frame
fit : (c : After-reshape) → LostFits c.reshape.new.s (length c.args.xq.now)
unfolding frame_refusal
fit c =
    let a = c.args in
    let n = length a.xq.now in
    subst (λ (t : SilkDecoderState). LostFits t n) (sym (coming c).moved) (lost-fits a.khz a.nb_subfr a.a.now.state n c.requires)

pub slice_bounds-lost-end : goal.slice_bounds-lost-end
slice_bounds-lost-end c =
    let o = (goal.at.slice_bounds-lost-end c).After-reshape in
    let w = (coming o).whole in
    let h = (fit o).output_lent in
    omega (arith, w, h)

pub slice_bounds-lost-end-2 : goal.slice_bounds-lost-end-2
slice_bounds-lost-end-2 c =
    let o = (goal.at.slice_bounds-lost-end-2 c).After-reshape in
    let w = (coming o).whole in
    let h = (fit o).output_lent in
    sym (length-take-le _ _ (omega (arith, w, h)))

pub lost-requires : goal.lost-requires
lost-requires c =
    let o = (goal.at.lost-requires c).After-reshape in
    let f = fit o in
    let l = (coming o).whole in
    let h = f.output_lent in
    (f.accepted, f.not_full, length-take-le _ _ (omega (arith, l, h)) ∙ l)

pub returns : goal.returns
unfolding whole_frame reshaped reshaped_by
returns c =
    let o = (goal.at.returns c).After-reshape in
    let a = c.args in
    played-answer a.a.now.state (frame_call a.khz a.nb_subfr Lost a.a.now.control [] [] [] a.xq.now) (sym (accepted _ c.requires)) _ _
    (c.lost.ensures ∙ ap (λ (t : SilkDecoderState). muted (shape_of t) (squelched t) (lost (shape_of t) t a.a.now.control)) (coming o).moved)
    (coming o).samples
