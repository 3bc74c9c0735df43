use mathlib.Core.Path.{refl, sym, ap}
use lib.ListN.{length}
use Rattle.refusal.specs.Refusals.{code_of}
use Rattle.refusal.proofs.Clear.{at_err}
use Rattle.judge.proofs.Bounds.{core-fits}
use Rattle.decode_core.specs.Answer.{core_answer, core_output, core_refusal}
use Rattle.decode_core.proofs.Accepts.{framed}
use Rattle.decode_core.proofs.silk_decode_core.Goals as goal

pub returns-in_err-core : goal.returns-in_err-core
unfolding core_answer core_output core_refusal
returns-in_err-core c = rw (sym c.in_err-core.ensures) (at_err _ _ c.from_residual.ensures.1, refl)

pub decode_core-requires : goal.decode_core-requires
decode_core-requires c =
    let a = c.args in
    let h = core-fits a.s a.q a.c (length a.pulses.now) (length a.xq.now) (ap code_of (sym c.in_ok-core.ensures)) in
    (framed a.s a.q a.c (length a.pulses.now) (length a.xq.now) h, h.pulses_lent, h.output_lent)

pub returns : goal.returns
unfolding core_answer core_output core_refusal
returns c = let d = c.decode_core.ensures in rw (sym c.in_ok-core.ensures, d.0, d.1, d.2) (refl, refl)
