use mathlib.Core.Path.{◌∙◌}
use lib.IntN.{pos, negsuc}
use mir.Syntax.{w64}
use mir.Facts.{to_z-of_z}
use Rattle.word.proofs.Words.{got, back}
use Rattle.word.proofs.Order.{sat32-fits}
use Rattle.word.proofs.Names.{clamp_is}
use Rattle.word.proofs.sat32.Goals as goal

pub returns : goal.returns
returns c =
    back (sat32-fits c.args.x)
    (got w64 c.clamp.type_inv (c.clamp.ensures.value ∙ rw (to_z-of_z c.ranges.x) (clamp_is (negsuc 2147483647) (pos 2147483647) c.args.x (record { le = tt }))))
