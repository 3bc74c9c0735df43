use mathlib.Core.Path.{sym, ap}
use lib.ListN.{length}
use Rattle.refusal.specs.Refusals.{code_of}
use Rattle.shape.specs.Shape.{rate_of}
use Rattle.decoder.proofs.Between.{natural-back}
use Rattle.decoder.proofs.Bounds.{bounds, plc_fits_lem}
use Rattle.judge.proofs.Bounds.{plc_lost-fits}
use Rattle.plc.proofs.conceal.silk_plc_lost.Goals as goal

pub plc_conceal-requires : goal.plc_conceal-requires
plc_conceal-requires c =
    let a = c.args in
    let f = plc_lost-fits a.s (length a.xq.now) (ap code_of (sym c.in_ok-plc_lost.ensures)) in
    let b = bounds (rate_of a.s.fs_khz) a.s f.accepted in
    (b.sizes.rate, b.sizes.count, plc_fits_lem (rate_of a.s.fs_khz) a.s.s_plc b.plc, natural-back a.s.loss_cnt b.decoder.loss_cnt, f.not_full, f.output_lent)
