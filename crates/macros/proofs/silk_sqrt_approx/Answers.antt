use mathlib.Core.Path.{◌≡◌, refl, ap, ◌∙◌}
use lib.IntN.{pos}
use mir.Syntax.{w32}
use mir.Val.{to_z, of_z}
use mir.Facts.{to_z-of_z}
use Rattle.word.proofs.Words.{kept}
use Rattle.word.proofs.Order.{le_read_l}
use Rattle.macros.specs.Fixed.{clz32, frac_q7, clz_frac, sqrt_approx}
use Rattle.macros.specs.declared.ClzFrac.{ClzFrac}
use Rattle.macros.proofs.Normal.{clz_le}
use Rattle.macros.proofs.silk_sqrt_approx.Goals.{After-silk_clz_frac-f, After-struct_told-1}
use Rattle.macros.proofs.silk_sqrt_approx.Goals as goal

-- the zeros above the highest bit, and the bits below it
parts : (c : After-silk_clz_frac-f) → let x = c.args.x in (c.silk_clz_frac-f.result.lz ≡ pos (clz32 x)) × (c.silk_clz_frac-f.result.frac_q7 ≡ pos (frac_q7 x))
unfolding clz_frac
parts c =
    let e = c.silk_clz_frac-f.ensures ∙ ap clz_frac (to_z-of_z c.ranges.x) in
    (ap (λ (f : ClzFrac). f.lz) e, ap (λ (f : ClzFrac). f.frac_q7) e)

zeros : (c : After-struct_told-1) → to_z w32 (of_z w32 c.silk_clz_frac-f.result.lz) ≡ pos (clz32 c.args.x)
zeros c = kept w32 _ c.struct_told-1.given.0.1 ∙ (parts c.before.before).0

pub sqrt_start-y-requires : goal.sqrt_start-y-requires
sqrt_start-y-requires c = rw (zeros c) (refl, clz_le c.args.x)

pub returns : goal.returns
unfolding sqrt_approx
returns c =
    rw (
      le_read_l (pos 0) c.ranges.x c.if-x-le0.false,
      kept w32 c.silk_smlawb.result c.silk_smlawb.type_inv,
      c.silk_smlawb.ensures,
      kept w32 c.silk_smulbb.result c.silk_smulbb.type_inv,
      c.silk_smulbb.ensures,
      kept w32 c.silk_clz_frac-f.result.frac_q7 c.struct_told-2-1.given.1.0.1,
      (parts (goal.at.returns c).After-silk_clz_frac-f).1,
      kept w32 c.sqrt_start-y.result c.sqrt_start-y.type_inv,
      c.sqrt_start-y.ensures,
      zeros (goal.at.returns c).After-struct_told-1,
    )
