use Prim.Native.Nat.{suc}
use mathlib.Core.Path.{◌≡◌, refl}
use native.Mathlib.Nat.{le_antisymm, le_refl}
use native.Mathlib.Numerals.{add-one}
use native.Mathlib.Omega.{arith}
use borrow.Author.Rules.{rules}
use lib.IntN.{pos}
use lib.ListN.{length, get_or}
use mir.Syntax.{w32}
use mir.Val.{to_z, of_z}
use mir.Facts.{to_z-of_z}
use Rattle.word.specs.Tabulate.{tabulate}
use Rattle.word.proofs.Words.{kept, got}
use Rattle.sigproc.proofs.Fill.{turn, filled}
use Rattle.cng.specs.Noise.{seed_at, drawn}
use Rattle.cng.proofs.drawn.Invariants.{value}
use Rattle.cng.proofs.drawn.Goals.{After-silk_rand-s}
use Rattle.cng.proofs.drawn.Goals as goal

-- the generator after one more turn
next : (c : After-silk_rand-s) → to_z w32 (of_z w32 c.silk_rand-s.result) ≡ seed_at (to_z w32 (of_z w32 c.args.seed)) (suc c.loop-x.x-index)
unfolding seed_at
next c = rw (got w32 c.silk_rand-s.type_inv c.silk_rand-s.ensures, c.loop-x.invariant.2)

pub loop-x-init : goal.loop-x-init
unfolding tabulate seed_at
loop-x-init c = (search rules, search rules, refl, refl)

pub loop-x-preserved : goal.loop-x-preserved
loop-x-preserved c =
    let a = c.args in
    let e = next (goal.at.loop-x-preserved c).After-silk_rand-s in (
      search rules,
      search rules,
      rw add-one e,
      turn a.out.now (value a.exc.now a.mask (to_z w32 (of_z w32 a.seed))) c.loop-x.x-index c.loop-x.out _ (omega arith) c.loop-x.invariant.3
          (rw (kept w32 (get_or a.exc.now c.draw.result (pos 0)) c.x-in-loop-x-1.given, c.draw.ensures.0, e)),
    )

pub returns : goal.returns
unfolding drawn
returns c =
    let l = c.loop-x in
    let out = c.args.out.now in
    let e = le_antisymm l.invariant.0 c.loop-x-test.false in
    let f = to_z-of_z c.ranges.seed in
    (rw (l.invariant.2, e, f), rw (l.invariant.3, e, f) (filled (tabulate (length out) _) out (length out) (le_refl _)))
