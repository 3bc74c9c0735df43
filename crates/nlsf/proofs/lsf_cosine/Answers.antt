use Prim.Native.Nat.{◌+◌, ◌/◌, ◌%◌}
use native.Mathlib.Omega.{arith}
use lib.IntN.{pos}
use mir.Syntax.{w16, w32}
use Rattle.word.proofs.Words.{kept, got}
use Rattle.nlsf.specs.Table.{lsf_cos}
use Rattle.nlsf.specs.Lines.{lsf_cosine}
use Rattle.nlsf.proofs.Lines.{lsf_cos_le, interpolated}
use Rattle.nlsf.proofs.lsf_cosine.Goals as goal

pub returns : goal.returns
unfolding lsf_cosine
returns c =
    let n = c.args.n in
    let i = n / 256 in
    rw (
      got w32 c.silk_rshift_round.type_inv c.silk_rshift_round.ensures,
      got w32 c.add32.type_inv c.add32.ensures,
      got w32 c.shl32.type_inv c.shl32.ensures,
      got w32 c.mul32.type_inv c.mul32.ensures,
      got w32 c.sub32-delta.type_inv c.sub32-delta.ensures,
      got w32 c.wide16.type_inv c.wide16.ensures,
      got w16 c.lsf_cos-2.type_inv c.lsf_cos-2.ensures,
      got w32 c.wide16-cos_val.type_inv c.wide16-cos_val.ensures,
      got w16 c.lsf_cos.type_inv c.lsf_cos.ensures,
      kept w32 (pos (n % 256)) (omega arith),
      interpolated (lsf_cos i) (lsf_cos (i + 1)) (n % 256) (lsf_cos_le i) (lsf_cos_le (i + 1)) (omega arith),
    )
