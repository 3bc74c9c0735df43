use mathlib.Core.Path.{◌∙◌}
use mir.Syntax.{w32, w64}
use mir.Facts.{to_z-of_z}
use Rattle.word.proofs.Words.{kept, got}
use Rattle.generator.proofs.Scales.{pick_by, pick-fits}
use Rattle.generator.proofs.pick.Goals as goal

pub narrowed-requires : goal.narrowed-requires
narrowed-requires g c =
    let a = c.args in
    let v = pick_by a.low a.count a.seed a.at (to_z-of_z c.ranges.low) (to_z-of_z c.ranges.seed) (got w32 c.drawn.type_inv c.drawn.ensures) (got w32 c.silk_rand.type_inv c.silk_rand.ensures) c.scaled.ensures in
    rw (kept w64 c.scaled.result c.scaled.type_inv, v) (pick-fits a.low a.count a.seed a.at c.requires.0 c.requires.1)

pub returns : goal.returns
returns g c =
    let a = c.args in
    let v = pick_by a.low a.count a.seed a.at (to_z-of_z c.ranges.low) (to_z-of_z c.ranges.seed) (got w32 c.drawn.type_inv c.drawn.ensures) (got w32 c.silk_rand.type_inv c.silk_rand.ensures) c.scaled.ensures in
    c.narrowed.ensures ∙ got w64 c.scaled.type_inv v
