use Prim.Native.Nat.{◌<◌}
use mathlib.Core.Path.{refl}
use native.Mathlib.Nat.{le_antisymm, le_refl}
use borrow.Author.Rules.{rules}
use lib.IntN.{pos}
use lib.ListN.{length, get_or}
use mir.Syntax.{w16, w32}
use mir.Facts.{to_z-of_z}
use Rattle.word.specs.Tabulate.{tabulate}
use Rattle.word.proofs.Lists.{length-tabulate, rest_at}
use Rattle.word.proofs.Words.{kept, got}
use Rattle.sigproc.specs.Synthesis.{played}
use Rattle.sigproc.proofs.Fill.{turn, filled}
use Rattle.cng.proofs.added.Goals as goal

pub loop-i-init : goal.loop-i-init
unfolding tabulate
loop-i-init c = (search rules, search rules, refl)

pub loop-i-preserved : goal.loop-i-preserved
loop-i-preserved c =
    let a = c.args in
    let frame = a.frame.now in
    let i = c.loop-i.i in
    let n : i < length frame = search rules in (
      search rules,
      search rules,
      turn frame _ i c.loop-i.frame _ n c.loop-i.invariant.2
          (rw (
            got w16 c.silk_add_sat16.type_inv c.silk_add_sat16.ensures,
            kept w16 (get_or c.loop-i.frame i (pos 0)) c.silk_add_sat16-arg-1.given,
            got w16 c.played_sample.type_inv c.played_sample.ensures,
            kept w32 (get_or a.signal.now i (pos 0)) c.played_sample-arg-1.given,
            c.loop-i.invariant.2,
            rest_at (tabulate i _) frame i (length-tabulate i _) n,
          )),
    )

pub returns : goal.returns
unfolding played
returns c =
    let frame = c.args.frame.now in
    rw (
      c.loop-i.invariant.2,
      le_antisymm c.loop-i.invariant.0 c.loop-i-test.false,
      got w32 c.shr32-gain_q10.type_inv c.shr32-gain_q10.ensures,
      to_z-of_z c.ranges.gain,
    )
    (filled (tabulate (length frame) _) frame (length frame) (le_refl _))
