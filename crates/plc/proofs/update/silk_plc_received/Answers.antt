use mathlib.Core.Path.{sym, ap}
use Rattle.refusal.specs.Refusals.{code_of}
use Rattle.decoder.proofs.Bounds.{size-bounds}
use Rattle.judge.proofs.Bounds.{plc_received-fits}
use Rattle.plc.proofs.update.silk_plc_received.Goals as goal

pub plc_update-requires : goal.plc_update-requires
plc_update-requires c =
    let a = c.args in
    let f = (plc_received-fits a.s a.q a.c (ap code_of (sym c.in_ok-plc_received.ensures))).accepted in
    (size-bounds a.s f.rate f.size).bounds.count_low
