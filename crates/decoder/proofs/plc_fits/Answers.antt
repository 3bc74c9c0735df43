use borrow.Author.Rules.{rules}
use mir.Syntax.{w16, w32}
use mir.Facts.{to_z-of_z}
use Rattle.word.proofs.Words.{kept}
use Rattle.decoder.specs.Ranges.{plc_fits}
use Rattle.decoder.proofs.Between.{only-or}
use Rattle.decoder.proofs.plc_fits.Goals as goal

pub returns : goal.returns
unfolding plc_fits
returns c =
    rw (
      only-or (c.equals.result) c.plc_held.result,
      c.plc_held.ensures,
      c.equals.ensures,
      c.rate_of.ensures,
      c.within-4.ensures,
      c.within-3.ensures,
      kept w32 c.wide16-2.result c.wide16-2.type_inv,
      c.wide16-2.ensures,
      c.within-2.ensures,
      kept w32 c.wide16.result c.wide16.type_inv,
      c.wide16.ensures,
      c.taps_held.ensures,
      c.within.ensures,
      to_z-of_z c.ranges.khz,
      kept w32 c.args.h.now.fs_khz (search rules),
      kept w32 c.args.h.now.conc_energy_shift (search rules),
      kept w32 c.args.h.now.conc_energy (search rules),
      kept w16 c.args.h.now.prev_ltp_scale_q14 (search rules),
      kept w16 c.args.h.now.rand_scale_q14 (search rules),
      kept w32 c.args.h.now.last_frame_lost (search rules),
    )
