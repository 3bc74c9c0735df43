use mir.Syntax.{w32}
use mir.Facts.{to_z-of_z}
use lib.IntN.{pos, nat_abs}
use Rattle.word.specs.Int.{wrap32}
use Rattle.word.proofs.Words.{got}
use Rattle.macros.specs.Fixed.{clz32}
use Rattle.macros.proofs.Normal.{clz_le}
use Rattle.stability.specs.Stability.{bit_length}
use Rattle.stability.proofs.Steps.{bits_left}
use Rattle.stability.proofs.bit_length.Goals as goal

pub returns : goal.returns
unfolding bit_length
returns c =
    let a = wrap32 (pos (nat_abs c.args.m)) in
    rw (
      got w32 c.sub32.type_inv c.sub32.ensures,
      got w32 c.silk_clz32.type_inv c.silk_clz32.ensures,
      got w32 c.abs32.type_inv c.abs32.ensures,
      to_z-of_z c.ranges.m,
      bits_left (clz32 a) (clz_le a),
    )
