use lib.IntN.{pos, ◌*ℤ◌}
use mir.Syntax.{w32}
use mir.Facts.{to_z-of_z}
use Rattle.word.proofs.Words.{kept, wrap_add_r}
use Rattle.macros.specs.Fixed.{rand}
use Rattle.macros.proofs.silk_rand.Goals as goal

pub returns : goal.returns
unfolding rand
returns c =
    cc (
      to_z-of_z c.ranges.seed,
      kept w32 c.mul32.result c.mul32.type_inv,
      kept w32 c.add32.result c.add32.type_inv,
      wrap_add_r w32 (pos 907633515) (c.args.seed *ℤ pos 196314165),
    )
