use native.Mathlib.Omega.{arith}
use lib.IntN.{pos, ◌+ℤ◌}
use mir.Syntax.{w32}
use mir.Facts.{to_z-of_z}
use Rattle.word.proofs.Sizes.{abs-add, abs-fits}
use Rattle.word.proofs.Words.{got, wrap_id}
use Rattle.announcement.proofs.apart.Goals as goal

pub returns : goal.returns
returns c =
    let z = c.args.below in
    rw (got w32 c.add32.type_inv c.add32.ensures, to_z-of_z c.ranges.below, to_z-of_z c.ranges.line, wrap_id {w = w32} {z = z +ℤ pos 3} (abs-fits (z +ℤ pos 3) (omega (arith, abs-add z (pos 3), c.requires))))
