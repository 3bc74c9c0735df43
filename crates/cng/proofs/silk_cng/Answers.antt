use mathlib.Core.Path.{◌≡◌, refl, sym, ap, ◌∙◌}
use mathlib.Core.List.{◌++◌}
use native.Mathlib.Omega.{arith}
use lib.ListN.{length, take, drop}
use lib.Seq.{length-take-le}
use Rattle.std.specs.Prelude.{Ok}
use Rattle.refusal.specs.Refusals.{code_of}
use Rattle.refusal.proofs.Clear.{at_err}
use Rattle.shape.specs.Shape.{rate_of}
use Rattle.decoder.specs.Outcome.{Framed}
use Rattle.decoder.specs.State.{shape_of}
use Rattle.decoder.proofs.Bounds.{bounds, cng_fits_lem as fits-back}
use Rattle.judge.proofs.Bounds.{CngFits, cng_fits_lem}
use Rattle.cng.specs.Answer.{cng_refusal, cng_answer, cng_output}
use Rattle.cng.proofs.Cases.{first-samples}
use Rattle.cng.proofs.silk_cng.Goals.{In_ok-cng}
use Rattle.cng.proofs.silk_cng.Goals as goal

pub returns-in_err-cng : goal.returns-in_err-cng
unfolding cng_answer cng_output cng_refusal
returns-in_err-cng c = rw (sym c.in_err-cng.ensures) (at_err _ _ c.from_residual.ensures.1, refl)

fits : (c : In_ok-cng) → let a = c.args in CngFits a.s a.c (length a.frame.now) a.n
fits c = cng_fits_lem _ _ _ _ (ap code_of (sym c.in_ok-cng.ensures))

room : (c : In_ok-cng) → let a = c.args in length (take a.n a.frame.now) ≡ a.n
room c = length-take-le _ _ (fits c).length_fit.room

pub slice_bounds-comfort_noise-end : goal.slice_bounds-comfort_noise-end
slice_bounds-comfort_noise-end c = (fits (goal.at.slice_bounds-comfort_noise-end c).In_ok-cng).length_fit.room

pub slice_bounds-comfort_noise-end-2 : goal.slice_bounds-comfort_noise-end-2
slice_bounds-comfort_noise-end-2 c = sym (room (goal.at.slice_bounds-comfort_noise-end-2 c).In_ok-cng)

pub comfort_noise-requires : goal.comfort_noise-requires
comfort_noise-requires c =
    let s = c.args.s in
    let o = (goal.at.comfort_noise-requires c).In_ok-cng in
    let f = fits o in
    let b = bounds (rate_of s.fs_khz) s f.accepted in
    let r = room o in
    (b.sizes.rate, b.sizes.count, fits-back _ _ b.cng, omega (arith, r, f.length_fit.most))

pub returns : goal.returns
unfolding cng_answer cng_output cng_refusal
returns c =
    let a = c.args in
    let o = (goal.at.returns c).In_ok-cng in
    let f = first-samples (shape_of a.s) a.s a.c.gains_q16 a.n a.frame.now (fits o).length_fit.room in
    let e = rw (room o) at c.comfort_noise.ensures in
    rw (sym c.in_ok-cng.ensures)
    (ap (λ (x : Framed). Ok x.state) e ∙ ap Ok f.0, ap (λ (x : Framed). x.frame ++ drop a.n a.frame.now) e ∙ f.1)
