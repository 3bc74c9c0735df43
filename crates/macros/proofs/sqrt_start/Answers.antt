use Prim.Native.Nat.{◌/◌, ◌%◌, ◌^◌}
use mathlib.Core.Path.{◌≡◌, ◌∙◌, sym}
use borrow.Author.Tests.{eq-eqb, ne_eqb}
use lib.IntN.{nat_abs}
use mir.Syntax.{w32}
use mir.Facts.{to_z-of_z}
use Rattle.word.specs.Int.{mod_ℤ, floor_div}
use Rattle.word.proofs.Words.{kept}
use Rattle.macros.specs.Fixed.{sqrt_start}
use Rattle.macros.proofs.Root.{half_of, odd_of}
use Rattle.macros.proofs.sqrt_start.Goals.{After-bits32}
use Rattle.macros.proofs.sqrt_start.Goals as goal

-- the lowest bit of the count, and half of it
odd : (c : After-bits32) → c.bits32.result % 2 ≡ nat_abs c.args.lz % 2
odd c =
    let e : c.bits32.result ≡ mod_ℤ c.args.lz (2 ^ 32) = cc (to_z-of_z c.ranges.lz) in
    rw e (odd_of c.args.lz c.requires.0 c.requires.1)

half : (c : After-bits32) → mod_ℤ c.shr32-h.result 32 ≡ nat_abs c.args.lz / 2
half c =
    let e : c.shr32-h.result ≡ floor_div c.args.lz 2 = cc (to_z-of_z c.ranges.lz) in
    rw e (half_of c.args.lz c.requires.0 c.requires.1)

pub returns-then-bits32-eq1 : goal.returns-then-bits32-eq1
unfolding sqrt_start
returns-then-bits32-eq1 c =
    rw (eq-eqb (nat_abs c.args.lz % 2) 1 (sym (odd c.before.before) ∙ c.if-bits32-eq1.true), kept w32 c.shr32.result c.shr32.type_inv, c.shr32.ensures, kept w32 c.shr32-h.result c.shr32-h.type_inv, half c.before.before)

pub returns-else-bits32-eq1 : goal.returns-else-bits32-eq1
unfolding sqrt_start
returns-else-bits32-eq1 c =
    rw (ne_eqb (nat_abs c.args.lz % 2) 1 (λ e. c.if-bits32-eq1.false (odd c.before.before ∙ e)), kept w32 c.shr32-else-bits32-eq1.result c.shr32-else-bits32-eq1.type_inv, c.shr32-else-bits32-eq1.ensures, kept w32 c.shr32-h.result c.shr32-h.type_inv, half c.before.before)
