use mathlib.Core.Path.{ap, ◌∙◌}
use lib.IntN.{ℤ}
use mir.Syntax.{w32}
use mir.Facts.{to_z-of_z}
use Rattle.word.proofs.Words.{got}
use Rattle.generator.specs.Draws.{drawn}
use Rattle.post_load.proofs.post_load_leap.Goals as goal

pub returns : goal.returns
returns c = got w32 c.drawn.type_inv c.drawn.ensures ∙ ap (λ (z : ℤ). drawn z c.args.draws) (to_z-of_z c.ranges.seed)
