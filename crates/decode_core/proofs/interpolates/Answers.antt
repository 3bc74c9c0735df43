use lib.Dec.{lit<}
use lib.IntN.{pos}
use mir.Syntax.{w8}
use Rattle.word.proofs.Order.{key, lt_read_l}
use Rattle.decoder.specs.Ranges.{within}
use Rattle.decoder.proofs.Ends.{below, at_most}
use Rattle.decode_core.proofs.interpolates.Goals as goal

pub returns-in-4 : goal.returns-in-4
unfolding within
returns-in-4 c =
    rw (key w8 c.args.nlsf_interp_coef_q2 4 (lit< tt) c.ranges.nlsf_interp_coef_q2 c.in-4.in-4-own.keys1)

pub returns-in-0-to-3 : goal.returns-in-0-to-3
returns-in-0-to-3 c =
    at_most 3 c.args.nlsf_interp_coef_q2 (lt_read_l (pos 0) c.ranges.nlsf_interp_coef_q2 c.in-0-to-3.if-nlsf_interp_coef_q2-lt0-own.false) (lt_read_l (pos 4) c.ranges.nlsf_interp_coef_q2 c.in-0-to-3.if-nlsf_interp_coef_q2-lt4-own.true)

pub returns-in_default : goal.returns-in_default
returns-in_default c =
    below 3 c.args.nlsf_interp_coef_q2 (lt_read_l (pos 0) c.ranges.nlsf_interp_coef_q2 c.in_default.if-nlsf_interp_coef_q2-lt0-own.true)

pub returns-in_default-2 : goal.returns-in_default-2
returns-in_default-2 c =
    at_most 3 c.args.nlsf_interp_coef_q2 (lt_read_l (pos 0) c.ranges.nlsf_interp_coef_q2 c.in_default.if-nlsf_interp_coef_q2-lt0-own.false) (lt_read_l (pos 4) c.ranges.nlsf_interp_coef_q2 c.in_default.if-nlsf_interp_coef_q2-lt4-own.false)
