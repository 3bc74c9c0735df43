use Prim.Native.Nat.{◌<◌}
use mathlib.Core.Path.{◌≡◌, refl, ◌∙◌}
use mathlib.Core.List.{map}
use native.Mathlib.Nat.{le_antisymm}
use native.Mathlib.Numerals.{add-one}
use borrow.Author.Rules.{rules}
use lib.IntN.{pos}
use lib.ListN.{length, get_or, take, length-map}
use lib.Seq.{length-take-le}
use native.Mathlib.Omega.{arith}
use mir.Syntax.{w16, w32}
use Rattle.word.specs.Int.{sat16}
use Rattle.word.proofs.Words.{kept, got}
use Rattle.stability.proofs.Sums.{take_more}
use Rattle.nlsf.specs.Fit.{in_q12, saturated}
use Rattle.word.proofs.Lists.{rest_at}
use Rattle.nlsf.proofs.Parts.{filled, scaled-kept}
use Rattle.nlsf.proofs.saturated.Invariants.{back}
use Rattle.nlsf.proofs.saturated.Goals as goal

pub loop-x-preserved : goal.loop-x-preserved
loop-x-preserved c =
    let a = c.args.a.now in
    let k = c.loop-x.x-index in
    let n : k < length a = c.loop-x-test.true in
    let z = get_or a k (pos 0) in
    let e : c.sat16.result ≡ sat16 (in_q12 z) =
    rw (c.sat16.ensures, got w32 c.in_q12.type_inv c.in_q12.ensures, kept w32 (get_or c.loop-x.a k (pos 0)) c.in_q12-arg-1.given, c.loop-x.invariant.1, rest_at (map back (take k a)) a k (length-map (take k a) back ∙ length-take-le k a (omega arith)) n) in (
      search rules,
      rw (got w32 c.shl32.type_inv c.shl32.ensures, got w32 c.wide16.type_inv c.wide16.ensures, got w16 c.sat16.type_inv e, scaled-kept (in_q12 z), c.loop-x.invariant.1, add-one) (take_more back a a k n n),
    )

pub returns : goal.returns
unfolding saturated
returns c =
    let a = c.args.a.now in
    rw (c.loop-x.invariant.1, le_antisymm c.loop-x.auto.x-index-end c.loop-x-test.false) (filled back a a refl)
