use mir.Syntax.{w32}
use mir.Facts.{to_z-of_z}
use Prim.Native.Nat.{◌^◌}
use lib.IntN.{pos, ◌*ℤ◌}
use Rattle.word.proofs.Words.{wrap_neg, got}
use Rattle.stability.specs.Stability.{reflection}
use Rattle.stability.proofs.reflection.Goals as goal

pub returns : goal.returns
unfolding reflection
returns c =
    rw (
      got w32 c.neg32.type_inv c.neg32.ensures,
      got w32 c.shl32.type_inv c.shl32.ensures,
      to_z-of_z c.ranges.a,
      wrap_neg w32 (c.args.a *ℤ pos (2 ^ 7)),
    )
