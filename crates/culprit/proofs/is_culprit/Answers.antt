use mathlib.Core.Path.{sym, ◌∙◌}
use mir.Facts.{to_z-of_z}
use Rattle.culprit.proofs.Laws.{and_true, kind_in}
use Rattle.culprit.proofs.is_culprit.Goals as goal

pub returns-then-is_received : goal.returns-then-is_received
returns-then-is_received c =
    rw (and_true _ _ (kind_in _ ∙ sym c.is_received.ensures ∙ c.if-is_received.true), c.lost_passes.ensures, to_z-of_z c.ranges.limit, to_z-of_z c.ranges.khz, to_z-of_z c.ranges.nb_subfr)
