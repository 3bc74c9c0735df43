use mir.Syntax.{w16, w32}
use mir.Facts.{to_z-of_z}
use Rattle.word.proofs.Words.{got}
use Rattle.cng.specs.Noise.{smoothed_line}
use Rattle.cng.proofs.Numbers.{short, difference}
use Rattle.cng.proofs.smoothed_line.Goals as goal

pub returns : goal.returns
unfolding smoothed_line
returns c =
    let f = c.ranges in
    rw (
      got w16 c.low16.type_inv c.low16.ensures,
      got w32 c.add32.type_inv c.add32.ensures,
      got w32 c.silk_smulwb.type_inv c.silk_smulwb.ensures,
      got w32 c.sub32.type_inv c.sub32.ensures,
      got w32 c.wide16-3.type_inv c.wide16-3.ensures,
      got w32 c.wide16-2.type_inv c.wide16-2.ensures,
      got w32 c.wide16.type_inv c.wide16.ensures,
      to_z-of_z f.held,
      to_z-of_z f.line,
      difference f.line f.held,
    )
    (short _)
