use lib.Dec.{lit<}
use lib.ListN.{take}
use mir.Syntax.{w32}
use mir.Facts.{to_z-of_z}
use Rattle.word.proofs.Order.{is, isnt}
use Rattle.word.proofs.Words.{got}
use Rattle.shape.specs.Order.{size}
use Rattle.stability.proofs.Gains.{inverse_gain_lem}
use Rattle.plc.specs.Conceal.{noise_gain}
use Rattle.plc.proofs.Gain.{limited-kept}
use Rattle.plc.proofs.conceal.noise_gain.Goals as goal

pub returns-then-loss_cnt-eq0 : goal.returns-then-loss_cnt-eq0
unfolding noise_gain
returns-then-loss_cnt-eq0 c =
    let g = inverse_gain_lem c.args.edition (take (size c.args.order) c.args.a.now) in
    rw (
      isnt w32 c.args.prev_signal_type 2 c.in_default.in_default-own.rest.1,
      is w32 _ 0 (lit< tt) c.ranges.loss_cnt c.if-loss_cnt-eq0.true,
      got w32 c.limited_gain.type_inv c.limited_gain.ensures,
      got w32 c.inverse_pred_gain.type_inv c.inverse_pred_gain.ensures,
      to_z-of_z c.ranges.edition,
      c.size.ensures,
      g.1,
      limited-kept g.0,
    )
