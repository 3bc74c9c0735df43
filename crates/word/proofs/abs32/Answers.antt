use mathlib.Core.Path.{◌∙◌}
use mir.Syntax.{w32}
use mir.Facts.{to_z-of_z}
use Rattle.word.proofs.Words.{got}
use Rattle.word.proofs.Names.{abs_is}
use Rattle.word.proofs.abs32.Goals as goal

pub returns : goal.returns
returns c = got w32 c.wrapping_abs.type_inv (c.wrapping_abs.ensures ∙ rw (to_z-of_z c.ranges.a) (abs_is w32 c.args.a c.ranges.a))
