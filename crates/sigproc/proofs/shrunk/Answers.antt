use Rattle.std.proofs.Common.{◌*ℤ◌, refl, to_z-of_z, w16, w32}
use Rattle.word.proofs.Words.{kept, wrap_cong, mod_wrap_low}
use Rattle.macros.specs.Fixed.{round_shift, rshift_round64, mul_q}
use Rattle.sigproc.specs.Expand.{shrunk}
use Rattle.sigproc.proofs.shrunk.Goals as goal

pub returns : goal.returns
unfolding shrunk mul_q rshift_round64
returns c =
    rw (
      kept w16 _ c.low16.type_inv,
      c.low16.ensures,
      kept w32 _ c.mul_q.type_inv,
      c.mul_q.ensures,
      to_z-of_z c.ranges.f,
      kept w32 _ c.wide16.type_inv,
      c.wide16.ensures,
      to_z-of_z c.ranges.x,
    )
    (wrap_cong w16 _ _ (mod_wrap_low w32 16 16 (round_shift (c.args.f *ℤ c.args.x) 16) refl))
