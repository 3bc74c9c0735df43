use Prim.Native.Nat.{◌^◌}
use mathlib.Core.Path.{refl}
use mir.Syntax.{w32}
use mir.Facts.{to_z-of_z}
use Rattle.word.specs.Int.{floor_div}
use Rattle.word.proofs.Range.{floor_div-fits}
use Rattle.word.proofs.Words.{got}
use Rattle.cng.proofs.Numbers.{masked}
use Rattle.cng.proofs.draw.Goals as goal

pub returns : goal.returns
returns c =
    let z = floor_div c.args.seed (2 ^ 24) in
    let m = masked z c.args.mask (floor_div-fits c.args.seed (2 ^ 24) c.ranges.seed) c.requires in
    rw (c.bits32.ensures, got w32 c.shr32.type_inv c.shr32.ensures, to_z-of_z c.ranges.seed, m.0) (refl, m.1)
