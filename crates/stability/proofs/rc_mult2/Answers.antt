use mir.Syntax.{w32}
use mir.Facts.{to_z-of_z}
use Rattle.word.proofs.Words.{got}
use Rattle.stability.specs.Stability.{bit_length, rc_mult2}
use Rattle.stability.proofs.Steps.{more-places, bit_length_le}
use Rattle.stability.proofs.rc_mult2.Goals as goal

pub returns : goal.returns
unfolding rc_mult2
returns c =
    let m = c.args.m in
    rw (
      got w32 c.silk_inverse32_varq.type_inv c.silk_inverse32_varq.ensures,
      got w32 c.add32.type_inv c.add32.ensures,
      to_z-of_z c.ranges.m,
      to_z-of_z c.ranges.q,
      c.requires,
      more-places (bit_length m) (bit_length_le m),
    )
