use mathlib.Core.Path.{refl, ◌∙◌}
use mathlib.Core.List.{[], ◌∷◌, ◌++◌}
use mir.Syntax.{w16}
use Rattle.word.proofs.Words.{kept}
use Rattle.sigproc.specs.Place.{put_at}
use Rattle.layout.specs.Layout.{state_halves}
use Rattle.layout.proofs.Pieces.{begun, next}
use Rattle.layout.proofs.put_halves.Goals as goal

pub returns : goal.returns
unfolding state_halves
returns c =
    let a = c.args in
    let s = a.s.now in
    let h = s.s_plc in
    let l = c.told-s in
    let f1 = begun s.out_buf 480 l.2 c.copy_at.ensures in
    let f2 = next s.prev_nlsf_q15 16 496 f1 l.3 refl c.copy_at-2.ensures in
    let f3 = next h.ltp_coef_q14 5 501 f2 c.copy_at-arg-6-1.given refl c.copy_at-3.ensures in
    let f4 = next h.prev_lpc_q12 16 517 f3 c.copy_at-arg-8-1.given refl c.copy_at-4.ensures in
    let f5 = next _ 2 519 f4 refl refl c.copy_at-5.ensures in
    let f6 = next s.s_cng.cng_smth_nlsf_q15 16 535 f5 c.copy_at-arg-11-1.given refl c.copy_at-6.ensures in
    f6.stored
    ∙ λ i.
    put_at a.halves.now 0
    (s.out_buf ++ s.prev_nlsf_q15 ++ h.ltp_coef_q14 ++ h.prev_lpc_q12
    ++ (kept w16 h.rand_scale_q14 c.scales-1.given i ∷ kept w16 h.prev_ltp_scale_q14 c.scales-2-1.given i ∷ []) ++ s.s_cng.cng_smth_nlsf_q15)
