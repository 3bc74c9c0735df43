use mathlib.Core.Path.{◌≡◌, ◌∙◌, ap}
use mir.Facts.{to_z-of_z}
use Rattle.shape.specs.Shape.{count_of}
use Rattle.shape.proofs.Shapes.{count_le}
use Rattle.plc.proofs.update.received.Goals.{After-count_of}
use Rattle.plc.proofs.update.received.Goals as goal

count : (c : After-count_of) → c.count_of.result ≡ count_of c.args.nb_subfr
count c = c.count_of.ensures ∙ ap count_of (to_z-of_z c.ranges.nb_subfr)

pub ready-h-requires : goal.ready-h-requires
ready-h-requires c = rw (count (goal.at.ready-h-requires c).After-count_of) (count_le c.args.nb_subfr)

pub returns : goal.returns
returns c =
    rw (c.plc_updated.ensures, c.is_voiced.ensures, c.ready-h.ensures, count (goal.at.returns c).After-count_of, to_z-of_z c.ranges.khz, to_z-of_z c.ranges.nb_subfr)
