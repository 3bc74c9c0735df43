use mathlib.Core.Path.{sym, ap, ◌∙◌}
use native.Mathlib.Omega.{arith}
use lib.ListN.{length}
use Rattle.decode_core.proofs.Bounds.{in_use}
use Rattle.decode_core.proofs.Steps.{length_started}
use Rattle.decode_core.proofs.Source.long_term.Goals as goal

pub ltp_synthesis-requires : goal.ltp_synthesis-requires
ltp_synthesis-requires c =
    let r = c.requires.0 (sym c.long.ensures ∙ c.if-long.true) in
    let l = c.lag.ensures in
    let n = ap length c.past_at.ensures.1 ∙ length_started _ _ _ _ _ _ _ _ r in
    (omega (arith, r.lag.low), omega (arith, r.lag.high, r.low), omega (arith, in_use r, r.sized.subframe, c.requires.2))
