use borrow.Author.Rules.{rules}
use Rattle.std.proofs.lemmas.List.{map-id}
use mir.Syntax.{w32}
use mir.Facts.{to_z-of_z}
use Rattle.word.proofs.Words.{kept}
use Rattle.decoder.specs.Ranges.{plc_held}
use lib.Dec.{lit≤}
use Rattle.decoder.proofs.Tests.{lag_q8}
use Rattle.decoder.proofs.plc_held.Goals as goal

pub returns : goal.returns
unfolding plc_held
returns c =
    rw (
      c.subframes_held.ensures,
      c.all_within.ensures,
      map-id,
      c.within.ensures,
      kept w32 c.mul32-high.result c.mul32-high.type_inv,
      c.mul32-high.ensures,
      kept w32 c.lag_max.result c.lag_max.type_inv,
      c.lag_max.ensures,
      kept w32 c.mul32-low.result c.mul32-low.type_inv,
      c.mul32-low.ensures,
      kept w32 c.lag_min.result c.lag_min.type_inv,
      c.lag_min.ensures,
      to_z-of_z c.ranges.khz,
      lag_q8 2 c.args.khz (lit≤ tt),
      lag_q8 18 c.args.khz (lit≤ tt),
      kept w32 c.args.h.now.subfr_length (search rules),
      kept w32 c.args.h.now.nb_subfr (search rules),
      kept w32 c.args.h.now.pitch_l_q8 (search rules),
    )
