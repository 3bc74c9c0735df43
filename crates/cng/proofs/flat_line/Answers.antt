use Prim.Native.Nat.{◌+◌, ◌*◌, ◌/◌}
use native.Mathlib.Numerals.{add-one}
use native.Mathlib.Omega.{arith}
use lib.IntN.{pos}
use mir.Syntax.{w16}
use Rattle.word.proofs.Words.{kept}
use Rattle.shape.specs.Order.{size}
use Rattle.cng.specs.Noise.{flat_line}
use Rattle.cng.proofs.Numbers.{flat_le}
use Rattle.cng.proofs.flat_line.Goals as goal

pub returns : goal.returns
unfolding flat_line
returns c =
    rw (c.size.ensures, kept w16 (pos ((c.args.i + 1) * (32767 / (size c.args.order + 1)))) (omega (arith, flat_le (size c.args.order) c.args.i c.requires)), add-one)
