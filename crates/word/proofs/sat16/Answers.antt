use mathlib.Core.Path.{◌∙◌}
use lib.IntN.{pos, negsuc}
use mir.Syntax.{w32}
use mir.Facts.{to_z-of_z}
use Rattle.word.proofs.Words.{got, back}
use Rattle.word.proofs.Order.{sat16-fits}
use Rattle.word.proofs.Names.{clamp_is}
use Rattle.word.proofs.sat16.Goals as goal

pub returns : goal.returns
returns c =
    back (sat16-fits c.args.a)
    (got w32 c.clamp.type_inv (c.clamp.ensures.value ∙ rw (to_z-of_z c.ranges.a) (clamp_is (negsuc 32767) (pos 32767) c.args.a (record { le = tt }))))
