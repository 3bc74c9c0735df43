use mathlib.Core.Path.{◌≡◌}
use mir.Syntax.{w32}
use mir.Val.{to_z, of_z}
use mir.Facts.{to_z-of_z}
use Rattle.word.proofs.Words.{got}
use Rattle.macros.specs.Fixed.{smulww}
use Rattle.cng.specs.Noise.{noise_gain}
use Rattle.cng.proofs.noise_gain.Goals as goal

pub returns-then-g-smoothed : goal.returns-then-g-smoothed
unfolding noise_gain
returns-then-g-smoothed c =
    let heard : to_z w32 (of_z w32 c.silk_smulww-g.result) ≡ smulww c.args.scale c.args.last = let f = c.ranges in rw (got w32 c.silk_smulww-g.type_inv c.silk_smulww-g.ensures, got w32 c.wide16.type_inv c.wide16.ensures, to_z-of_z f.scale, to_z-of_z f.last) in
    rw (
      (rw (heard, to_z-of_z c.ranges.smoothed) at c.if-g-smoothed.true),
      got w32 c.shl32-then-g-smoothed.type_inv c.shl32-then-g-smoothed.ensures,
      got w32 c.silk_sqrt_approx.type_inv c.silk_sqrt_approx.ensures,
      got w32 c.sub32.type_inv c.sub32.ensures,
      got w32 c.shl32.type_inv c.shl32.ensures,
      got w32 c.silk_smultt-then-g-smoothed.type_inv c.silk_smultt-then-g-smoothed.ensures,
      got w32 c.silk_smultt.type_inv c.silk_smultt.ensures,
      heard,
      to_z-of_z c.ranges.smoothed,
    )

pub returns : goal.returns
unfolding noise_gain
returns c =
    let heard : to_z w32 (of_z w32 c.silk_smulww-g.result) ≡ smulww c.args.scale c.args.last = let f = c.ranges in rw (got w32 c.silk_smulww-g.type_inv c.silk_smulww-g.ensures, got w32 c.wide16.type_inv c.wide16.ensures, to_z-of_z f.scale, to_z-of_z f.last) in
    rw (
      (rw (heard, to_z-of_z c.ranges.smoothed) at c.if-g-smoothed.false),
      got w32 c.shl32-3.type_inv c.shl32-3.ensures,
      got w32 c.silk_sqrt_approx-2.type_inv c.silk_sqrt_approx-2.ensures,
      got w32 c.sub32-2.type_inv c.sub32-2.ensures,
      got w32 c.shl32-2.type_inv c.shl32-2.ensures,
      got w32 c.silk_smulww-2.type_inv c.silk_smulww-2.ensures,
      got w32 c.silk_smulww.type_inv c.silk_smulww.ensures,
      heard,
      to_z-of_z c.ranges.smoothed,
    )
