use borrow.Author.Rules.{rules}
use mir.Syntax.{w32}
use mir.Facts.{to_z-of_z}
use Rattle.word.proofs.Words.{kept}
use Rattle.decoder.specs.Ranges.{cng_fits}
use mathlib.Core.Bool.{◌&&◌}
use Rattle.decoder.proofs.Between.{only-or}
use Rattle.decoder.proofs.cng_fits.Goals as goal

pub returns : goal.returns
unfolding cng_fits
returns c =
    rw (
      only-or c.equals.result (c.lines_fit.result && c.within.result),
      c.equals.ensures,
      c.rate_of.ensures,
      c.within.ensures,
      c.lines_fit.ensures,
      to_z-of_z c.ranges.khz,
      kept w32 c.args.h.now.fs_khz (search rules),
      kept w32 c.args.h.now.cng_smth_gain_q16 (search rules),
    )
