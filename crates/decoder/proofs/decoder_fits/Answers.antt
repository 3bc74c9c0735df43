use borrow.Author.Rules.{rules}
use mir.Syntax.{w32}
use mir.Facts.{to_z-of_z}
use Rattle.word.proofs.Words.{kept, eq_words}
use Rattle.decoder.specs.Ranges.{decoder_fits}
use Rattle.decoder.specs.Reshape.{reshaped_by, reshaped}
use Rattle.decoder.proofs.Between.{only-or}
use Rattle.decoder.proofs.decoder_fits.Goals as goal

pub returns : goal.returns
unfolding decoder_fits reshaped reshaped_by
returns c nb =
    rw (
      c.lines_fit.ensures,
      c.within-3.ensures,
      kept w32 c.chosen-first.result c.chosen-first.type_inv,
      c.chosen-first.ensures,
      c.within-2.ensures,
      c.within.ensures,
      kept w32 c.chosen-kind.result c.chosen-kind.type_inv,
      c.chosen-kind.ensures,
      only-or _ c.is_lag.result,
      c.is_lag.ensures,
      kept w32 c.chosen-lag.result c.chosen-lag.type_inv,
      c.chosen-lag.ensures,
      eq_words w32 c.args.khz c.args.s.now.fs_khz c.ranges.khz (record { sfits = (search rules) }),
      kept w32 c.args.s.now.prev_gain_q16 (search rules),
      kept w32 c.args.s.now.loss_cnt (search rules),
      kept w32 c.args.s.now.first_frame_after_reset (search rules),
      kept w32 c.args.s.now.prev_signal_type (search rules),
      kept w32 c.args.s.now.lag_prev (search rules),
      to_z-of_z c.ranges.khz,
    )
