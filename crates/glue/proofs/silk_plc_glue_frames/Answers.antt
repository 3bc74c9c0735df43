use mathlib.Core.Path.{refl, sym, ap}
use lib.ListN.{length}
use lib.Seq.{length-take-le}
use Rattle.refusal.specs.Refusals.{code_of}
use Rattle.refusal.proofs.Clear.{at_err}
use Rattle.shape.specs.Shape.{rate_of}
use Rattle.decoder.proofs.Bounds.{bounds}
use Rattle.judge.proofs.Bounds.{GlueFits, glue_fits}
use Rattle.glue.specs.Answer.{glue_refusal, glue_answer, glue_output}
use Rattle.glue.proofs.silk_plc_glue_frames.Goals.{In_ok-glue}
use Rattle.glue.proofs.silk_plc_glue_frames.Goals as goal

pub returns-in_err-glue : goal.returns-in_err-glue
unfolding glue_answer glue_output glue_refusal
returns-in_err-glue c = rw (sym c.in_err-glue.ensures) (at_err _ _ c.from_residual.ensures.1, refl)

fits : (c : In_ok-glue) → let a = c.args in GlueFits a.s (length a.frame.now) a.n
fits c = let a = c.args in glue_fits a.s (length a.frame.now) a.n (ap code_of (sym c.in_ok-glue.ensures))

pub slice_bounds-glue_frames-end : goal.slice_bounds-glue_frames-end
slice_bounds-glue_frames-end c = (fits c).length_fit.room

pub slice_bounds-glue_frames-end-2 : goal.slice_bounds-glue_frames-end-2
slice_bounds-glue_frames-end-2 c = sym (length-take-le _ _ (fits (goal.at.slice_bounds-glue_frames-end-2 c).In_ok-glue).length_fit.room)

pub glue_frames-requires : goal.glue_frames-requires
glue_frames-requires c =
    let f = fits (goal.at.glue_frames-requires c).In_ok-glue in
    let a = c.args in
    let b = (bounds (rate_of a.s.fs_khz) a.s f.accepted).plc in
    let l = length-take-le a.n a.frame.now f.length_fit.room in
    rw l (f.length_fit.some, f.length_fit.most, b.conc_energy, b.conc_energy_shift.is, b.conc_energy_shift.high)

pub returns : goal.returns
unfolding glue_answer glue_output glue_refusal
returns c =
    let g = c.glue_frames in
    rw (sym c.in_ok-glue.ensures, g.ensures.0, g.ensures.1) (refl, refl)
