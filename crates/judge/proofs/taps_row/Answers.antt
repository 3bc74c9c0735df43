use borrow.Author.Rules.{rules}
use mir.Syntax.{w32}
use mir.Facts.{to_z-of_z}
use Rattle.word.proofs.Words.{kept}
use Rattle.decoder.proofs.Between.{only-or}
use Rattle.judge.specs.Rows.{taps_row}
use Rattle.judge.proofs.taps_row.Goals as goal

pub returns : goal.returns
unfolding taps_row
returns c =
    rw (
      c.within.ensures,
      kept w32 c.args.c.now.ltp_scale_q14 (search rules),
      only-or c.is_voiced.result c.taps_fit.result,
      c.is_voiced.ensures,
      c.taps_fit.ensures,
      c.count_of.ensures,
      to_z-of_z c.ranges.nb_subfr,
    )
