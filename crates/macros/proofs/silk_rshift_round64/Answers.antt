use mathlib.Core.Path.{◌≡◌}
use mathlib.Core.Bool.{false}
use lib.IntN.{pos, ◌+ℤ◌, ◌-ℤ◌}
use lib.Signed.{le_z}
use mir.Syntax.{w32, w64}
use mir.Val.{to_z, of_z}
use mir.Facts.{to_z-of_z}
use Rattle.macros.specs.Fixed.{rshift_round64}
use Rattle.word.proofs.Words.{kept, mod_wrap_64}
use Rattle.word.proofs.Order.{le_read_l}
use Rattle.macros.proofs.Rounding.{Up, up_fits, round64_is}
use Rattle.macros.proofs.silk_rshift_round64.Goals.{After-low_bit}
use Rattle.macros.proofs.silk_rshift_round64.Goals as goal

-- the amount is positive
amount : (c : After-low_bit) → le_z c.args.shift (pos 0) ≡ false
amount c = le_read_l (pos 0) c.ranges.shift c.if-shift-le0.false

-- the two numbers that are added
summed : (c : After-low_bit)
    → to_z w64 (of_z w64 c.shr64.result) +ℤ to_z w64 (of_z w64 c.low_bit.result) ≡ Up c.args.a c.args.shift
summed c =
    cc (
      to_z-of_z c.ranges.a,
      to_z-of_z c.ranges.shift,
      kept w64 c.shr64.result c.shr64.type_inv,
      kept w32 c.sub32.result c.sub32.type_inv,
      kept w64 c.shr64-2.result c.shr64-2.type_inv,
      kept w64 c.low_bit.result c.low_bit.type_inv,
      mod_wrap_64 (c.args.shift -ℤ pos 1),
    )

pub overflow_add-result : goal.overflow_add-result
overflow_add-result c =
    rw (summed c) (up_fits c.args.a c.args.shift c.ranges.a (amount c))

pub returns : goal.returns
unfolding rshift_round64
returns c =
    rw (summed c, to_z-of_z (up_fits c.args.a c.args.shift c.ranges.a (amount c)), amount c)
    (round64_is c.args.a c.args.shift (amount c))
