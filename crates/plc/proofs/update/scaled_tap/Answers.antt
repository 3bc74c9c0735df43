use lib.IntN.{pos}
use mir.Syntax.{w16}
use mir.Facts.{to_z-of_z}
use Rattle.word.proofs.Order.{lt_read_l, lt_read_r}
use Rattle.word.proofs.Words.{wrap_id, got}
use Rattle.plc.specs.Update.{scaled_by, scaled_tap}
use Rattle.plc.proofs.Numbers.{middle-fits}
use Rattle.plc.proofs.update.scaled_tap.Goals as goal

pub returns-then-sum-lt-V_PITCH_GAIN_START_MIN_Q14 : goal.returns-then-sum-lt-V_PITCH_GAIN_START_MIN_Q14
unfolding scaled_tap scaled_by
returns-then-sum-lt-V_PITCH_GAIN_START_MIN_Q14 c =
    rw (lt_read_l (pos 11469) c.ranges.sum c.if-sum-lt-V_PITCH_GAIN_START_MIN_Q14.true, got w16 c.scaled_by.type_inv c.scaled_by.ensures, to_z-of_z c.ranges.sum)

pub returns-then-sum-gt-V_PITCH_GAIN_START_MAX_Q14 : goal.returns-then-sum-gt-V_PITCH_GAIN_START_MAX_Q14
unfolding scaled_tap scaled_by
returns-then-sum-gt-V_PITCH_GAIN_START_MAX_Q14 c =
    rw (
      lt_read_l (pos 11469) c.ranges.sum c.if-sum-lt-V_PITCH_GAIN_START_MIN_Q14.false,
      lt_read_r (pos 15565) c.ranges.sum c.if-sum-gt-V_PITCH_GAIN_START_MAX_Q14.true,
      got w16 c.scaled_by-then-sum-gt-V_PITCH_GAIN_START_MAX_Q14.type_inv c.scaled_by-then-sum-gt-V_PITCH_GAIN_START_MAX_Q14.ensures,
      to_z-of_z c.ranges.sum,
    )

pub returns-else-sum-gt-V_PITCH_GAIN_START_MAX_Q14 : goal.returns-else-sum-gt-V_PITCH_GAIN_START_MAX_Q14
unfolding scaled_tap
returns-else-sum-gt-V_PITCH_GAIN_START_MAX_Q14 c =
    let l = lt_read_l (pos 11469) c.ranges.sum c.if-sum-lt-V_PITCH_GAIN_START_MIN_Q14.false in
    let u = lt_read_r (pos 15565) c.ranges.sum c.if-sum-gt-V_PITCH_GAIN_START_MAX_Q14.false in
    rw (l, u, got w16 c.low16.type_inv c.low16.ensures, to_z-of_z c.ranges.sum) (wrap_id (middle-fits c.args.sum l u))
