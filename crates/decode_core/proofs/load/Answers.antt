use mathlib.Core.Path.{sym}
use native.Mathlib.Omega.{arith}
use lib.Seq.{length-take-le}
use mir.Facts.{to_z-of_z}
use Rattle.macros.specs.Fixed.{smulww}
use Rattle.decode_core.proofs.Short.{loaded}
use Rattle.decode_core.proofs.load.Goals as goal

pub slice_bounds-adjust-end-2 : goal.slice_bounds-adjust-end-2
slice_bounds-adjust-end-2 c = sym (length-take-le 16 c.args.signal.now (omega arith))

pub returns : goal.returns
returns c =
    let s = c.args.signal.now in
    rw (c.copy_at.ensures, c.adjust.ensures, to_z-of_z c.ranges.adj) (loaded (smulww c.args.adj) s c.args.exc.now c.requires)
