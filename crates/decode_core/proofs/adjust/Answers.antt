use Prim.Native.Nat.{ℕ}
use mathlib.Core.Path.{refl}
use native.Mathlib.Nat.{le_antisymm}
use native.Mathlib.Omega.{arith}
use lib.IntN.{pos}
use lib.ListN.{length, get_or}
use mir.Syntax.{w32}
use mir.Facts.{to_z-of_z}
use Rattle.word.specs.Tabulate.{tabulate}
use Rattle.word.proofs.Words.{kept}
use Rattle.macros.specs.Fixed.{smulww}
use Rattle.sigproc.proofs.Fill.{turn, filled, map-table}
use Rattle.decode_core.proofs.Pasts.{table-read}
use Rattle.decode_core.proofs.adjust.Goals as goal

pub loop-x-init : goal.loop-x-init
unfolding tabulate
loop-x-init c = refl

pub loop-x-preserved : goal.loop-x-preserved
loop-x-preserved c =
    let a = c.args in
    let l = c.loop-x in
    turn a.xs.now _ l.x-index l.xs _ (omega arith) l.invariant
    (rw (kept w32 _ c.silk_smulww.type_inv, c.silk_smulww.ensures, kept w32 (get_or l.xs l.x-index (pos 0)) c.silk_smulww-arg-1.given, table-read _ a.xs.now l.x-index l.xs (omega arith) l.invariant))

pub returns : goal.returns
returns c =
    let xs = c.args.xs.now in
    rw (
      c.loop-x.invariant,
      le_antisymm c.loop-x.auto.x-index-end c.loop-x-test.false,
      to_z-of_z c.ranges.adj,
      filled (tabulate (length xs) (λ (k : ℕ). smulww c.args.adj (get_or xs k (pos 0)))) xs (length xs) (omega arith),
    )
    (map-table (smulww c.args.adj) xs)
