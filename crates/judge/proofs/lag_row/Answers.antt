use Rattle.std.proofs.lemmas.List.{map-id}
use mir.Syntax.{w32}
use mir.Facts.{to_z-of_z}
use Rattle.word.proofs.Words.{kept}
use Rattle.decoder.proofs.Between.{only-not}
use Rattle.judge.specs.Rows.{lag_row}
use Rattle.judge.proofs.lag_row.Goals as goal

pub returns : goal.returns
unfolding lag_row
returns c =
    rw (
      only-not c.is_voiced.result c.all_within-ok.result,
      c.is_voiced.ensures,
      c.all_within-ok.ensures,
      map-id,
      c.count_of.ensures,
      kept w32 c.lag_min-low.result c.lag_min-low.type_inv,
      c.lag_min-low.ensures,
      kept w32 c.lag_max-high.result c.lag_max-high.type_inv,
      c.lag_max-high.ensures,
      to_z-of_z c.ranges.fs_khz,
      to_z-of_z c.ranges.nb_subfr,
    )
