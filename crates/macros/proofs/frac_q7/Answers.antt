use Prim.Native.Nat.{ℕ, ◌*◌, ◌/◌, ◌%◌, ◌^◌}
use mathlib.Core.Path.{ap, ◌∙◌}
use native.Mathlib.Omega.{arith}
use lib.Count.{count_leading_zeros, leading_le}
use lib.IntN.{ℤ, pos}
use lib.Pow.{shl_exact}
use mir.Syntax.{w32}
use mir.Facts.{to_z-of_z, to_z_pos}
use Rattle.word.specs.Int.{mod_ℤ}
use Rattle.macros.specs.Fixed.{clz32, frac_q7}
use Rattle.macros.proofs.frac_q7.Goals as goal

pub returns : goal.returns
unfolding frac_q7 clz32
returns c =
    let r = c.bits32-b.result in
    rw (c.from.ensures, shl_exact 32 (count_leading_zeros 32 r) 64 c.bits32-b.type_inv (omega (arith, leading_le 32 r)))
    (to_z_pos w32 {n = r * 2 ^ count_leading_zeros 32 r / 2 ^ 24 % 128} (omega arith)
    ∙ ap (λ (n : ℕ). pos (n * 2 ^ count_leading_zeros 32 n / 2 ^ 24 % 128))
    (c.bits32-b.ensures ∙ ap (λ (z : ℤ). mod_ℤ z (2 ^ 32)) (to_z-of_z c.ranges.x)))
