use mathlib.Core.Path.{◌≡◌}
use native.Mathlib.Omega.{arith}
use lib.IntN.{pos, ◌-ℤ◌}
use mir.Syntax.{w16, w32}
use mir.Facts.{to_z-of_z}
use Rattle.word.specs.Int.{wrap32}
use Rattle.word.proofs.Words.{kept, wrap_id, got}
use Rattle.word.proofs.Sizes.{abs-fits, abs-sub}
use Rattle.plc.proofs.conceal.voiced_scale.Goals as goal

pub returns : goal.returns
returns c =
    let u = c.tap_sum in
    let k : wrap32 (pos 16384 -ℤ u.result) ≡ pos 16384 -ℤ u.result =
    wrap_id (abs-fits (pos 16384 -ℤ u.result) (omega (arith, abs-sub (pos 16384) u.result, u.ensures.1))) in
    rw (
      got w16 c.low16.type_inv c.low16.ensures,
      got w32 c.shr32.type_inv c.shr32.ensures,
      got w32 c.silk_smulbb.type_inv c.silk_smulbb.ensures,
      got w32 c.silk_max_32.type_inv c.silk_max_32.ensures,
      got w32 c.sub32.type_inv c.sub32.ensures,
      kept w32 _ u.type_inv,
      k,
      u.ensures.0,
      got w32 c.wide16.type_inv c.wide16.ensures,
      to_z-of_z c.ranges.ltp_scale_q14,
    )
