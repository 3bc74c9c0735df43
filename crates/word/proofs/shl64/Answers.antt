use Prim.Native.Nat.{◌^◌}
use mathlib.Core.Path.{refl, ◌∙◌}
use mir.Syntax.{w32, w64}
use mir.Facts.{to_z-of_z}
use Rattle.word.specs.Int.{mod_ℤ}
use Rattle.word.proofs.Words.{got, low_bits, shl_back}
use Rattle.word.proofs.shl64.Goals as goal

pub returns : goal.returns
returns c =
    got w64 c.wrapping_shl.type_inv
    (c.wrapping_shl.ensures
    ∙ rw (c.cast_unsigned.ensures, to_z-of_z c.ranges.x, to_z-of_z c.ranges.s, low_bits w32 26 6 c.args.s refl c.ranges.s)
    (shl_back w64 c.args.x (2 ^ mod_ℤ c.args.s 64) c.ranges.x))
