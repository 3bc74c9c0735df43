use Rattle.std.proofs.Common.{◌≡◌, length, take, refl, le_refl, add-one, arith, length-take-le, to_z-of_z, w16, w32, to_z, of_z}
use Rattle.word.proofs.Words.{kept}
use Rattle.macros.specs.Fixed.{rshift_round64, mul_q}
use Rattle.sigproc.specs.Expand.{factor, bwexpander}
use Rattle.sigproc.proofs.Shrink.{expand_past, expand_front}
use Rattle.sigproc.proofs.silk_bwexpander.Goals as goal

pub loop-a-init : goal.loop-a-init
unfolding factor bwexpander
loop-a-init c = (refl, refl)

pub loop-a-preserved : goal.loop-a-preserved
unfolding factor bwexpander mul_q rshift_round64
loop-a-preserved c =
    let a = c.args in
    let l = c.loop-a in (
      rw (add-one, kept w32 c.mul_q-f.result c.mul_q-f.type_inv, c.mul_q-f.ensures, l.invariant.0),
      rw (
        add-one,
        kept w16 _ c.shrunk.type_inv,
        c.shrunk.ensures,
        kept w16 _ c.shrunk-arg-1.given,
        l.invariant.0,
        l.invariant.1,
        expand_past (to_z w32 (of_z w32 a.chirp_q16)) (take a.d a.ar.now) l.a-index l.a-index (le_refl _),
      ),
    )

pub returns : goal.returns
returns c =
    let a = c.args in
    let n : length (take a.d a.ar.now) ≡ a.d = length-take-le a.d a.ar.now (omega arith) in
    let e : c.loop-a.a-index ≡ a.d = omega (arith, n, c.loop-a.auto.a-index-end) in
    rw (c.loop-a.invariant.1, e, to_z-of_z c.ranges.chirp_q16) (expand_front a.chirp_q16 a.ar.now a.d a.d (le_refl _) (omega arith))
