use mathlib.Core.Path.{refl}
use native.Mathlib.Numerals.{add-one}
use native.Mathlib.Nat.{le_antisymm}
use native.Mathlib.Omega.{arith}
use lib.IntN.{pos}
use lib.ListN.{length, get_or}
use mir.Syntax.{w16, w32}
use mir.Val.{to_z, of_z}
use mir.Facts.{to_z-of_z}
use Rattle.word.proofs.Words.{kept}
use Rattle.excitation.specs.Excitation.{generator_at, excitation}
use Rattle.sigproc.proofs.Fill.{filled}
use Rattle.excitation.proofs.Samples.{excite_turn}
use Rattle.excitation.proofs.excite.Goals as goal

pub loop-i-init : goal.loop-i-init
unfolding generator_at excitation
loop-i-init c = (refl, refl)

pub loop-i-preserved : goal.loop-i-preserved
unfolding generator_at
loop-i-preserved c =
    let a = c.args in
    let l = c.loop-i in
    let u = kept w16 (get_or a.pulses.now l.i (pos 0)) c.p-1.given in
    let v = kept w32 c.silk_rand-r.result c.silk_rand-r.type_inv in (
      rw (add-one, kept w32 _ c.add32-g.type_inv, c.add32-g.ensures, v, c.silk_rand-r.ensures, kept w32 _ c.wide16.type_inv, c.wide16.ensures, u, l.invariant.0),
      rw (add-one, kept w32 _ c.excited.type_inv, c.excited.ensures, v, c.silk_rand-r.ensures, u, l.invariant.0, l.invariant.1)
          (excite_turn (to_z w32 (of_z w32 a.offset)) a.pulses.now (to_z w32 (of_z w32 a.seed)) a.exc.now l.i (omega arith)),
    )

pub returns : goal.returns
returns c =
    let e = le_antisymm c.loop-i.auto.i-end c.loop-i-test.false in
    let d = c.args.exc.now in
    rw (c.loop-i.invariant.1, e, to_z-of_z c.ranges.offset, to_z-of_z c.ranges.seed) (filled _ d (length d) (omega arith))
