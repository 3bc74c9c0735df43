use mathlib.Core.Path.{◌≡◌}
use lib.IntN.{pos, ◌+ℤ◌, ◌-ℤ◌}
use mir.Syntax.{w32}
use mir.Facts.{to_z-of_z}
use Rattle.word.specs.Int.{wrap32}
use Rattle.word.proofs.Words.{got}
use Rattle.macros.specs.Fixed.{smulwb}
use Rattle.cng.specs.Noise.{next_gain}
use Rattle.cng.proofs.next_gain.Goals as goal

pub returns-then-silk_smulww-g : goal.returns-then-silk_smulww-g
unfolding next_gain
returns-then-silk_smulww-g c =
    let next : c.add32-next.result ≡ wrap32 (c.args.held +ℤ smulwb (wrap32 (c.args.g -ℤ c.args.held)) (pos 4634)) = let f = c.ranges in rw (c.add32-next.ensures, got w32 c.silk_smulwb.type_inv c.silk_smulwb.ensures, got w32 c.sub32.type_inv c.sub32.ensures, to_z-of_z f.held, to_z-of_z f.g) in
    let lower = rw (to_z-of_z c.ranges.g, got w32 c.silk_smulww.type_inv c.silk_smulww.ensures, got w32 c.add32-next.type_inv next) at c.if-silk_smulww-g.true in
    rw lower (to_z-of_z c.ranges.g)

pub returns-else-silk_smulww-g : goal.returns-else-silk_smulww-g
unfolding next_gain
returns-else-silk_smulww-g c =
    let next : c.add32-next.result ≡ wrap32 (c.args.held +ℤ smulwb (wrap32 (c.args.g -ℤ c.args.held)) (pos 4634)) = let f = c.ranges in rw (c.add32-next.ensures, got w32 c.silk_smulwb.type_inv c.silk_smulwb.ensures, got w32 c.sub32.type_inv c.sub32.ensures, to_z-of_z f.held, to_z-of_z f.g) in
    let lower = rw (to_z-of_z c.ranges.g, got w32 c.silk_smulww.type_inv c.silk_smulww.ensures, got w32 c.add32-next.type_inv next) at c.if-silk_smulww-g.false in
    rw lower (got w32 c.add32-next.type_inv next)
