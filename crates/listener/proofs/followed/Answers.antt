use Prim.Native.Nat.{suc, ◌+◌, ◌<◌}
use mathlib.Core.Path.{◌≡◌, refl, ap, ◌∙◌}
use mathlib.Core.Bool.{Bool, true, false, not, cond, ◌&&◌}
use native.Mathlib.Numerals.{add-one}
use native.Mathlib.Omega.{arith}
use mir.Syntax.{w32}
use mir.Val.{to_z, of_z}
use mir.Facts.{to_z-of_z}
use Rattle.word.proofs.Words.{kept}
use Rattle.macros.specs.Fixed.{rand}
use Rattle.generator.specs.Draws.{drawn, unsigned}
use Rattle.listener.specs.Link.{turned, good_at}
use Rattle.listener.specs.Heard.{Heard, as_received, as_concealed, as_squelched, losses_at, silent, heard_by, count_to, counts_of}
use Rattle.listener.proofs.Counting.{losses_le, count_le}
use borrow.Author.Rules.{rules}
use Rattle.listener.proofs.followed.Goals.{In-loop, then-not-good, else-not-good, then-not-good-2, else-not-good-2}
use Rattle.listener.proofs.followed.Goals as goal

-- a count of the frames before a turn has room for one more
losses_room : (c : In-loop) → c.loop.losses < 4294967295
losses_room c =
    let f : c.args.frames < 4294967296 = search rules in
    omega (arith, losses_le c.args.k (to_z w32 (of_z w32 c.args.seed)) c.loop.counter, c.loop.invariant.2, c.loop-test.true, f)

module _ (c : In-loop) where
  room : (h : Heard) → count_to h c.args.squelch c.args.k (to_z w32 (of_z w32 c.args.seed)) c.loop.counter < 4294967295
  room h =
      let f : c.args.frames < 4294967296 = search rules in
      omega (arith, count_le h c.args.squelch c.args.k (to_z w32 (of_z w32 c.args.seed)) c.loop.counter, c.loop-test.true, f)

pub loop-init : goal.loop-init
unfolding drawn good_at losses_at count_to
loop-init c = (refl, refl, refl, refl, refl, refl)

pub silent-quiet-requires : goal.silent-quiet-requires
silent-quiet-requires c = losses_room c

pub counted-received-requires : goal.counted-received-requires
counted-received-requires c = omega (arith, c.loop.invariant.3, room c.before as_received)

pub counted-concealed-requires : goal.counted-concealed-requires
counted-concealed-requires c = omega (arith, c.loop.invariant.4, room c.before.before.before as_concealed)

pub counted-squelched-requires : goal.counted-squelched-requires
counted-squelched-requires c = omega (arith, c.loop.invariant.5, room c.before.before.before.before.before as_squelched)

pub row_after-losses-requires : goal.row_after-losses-requires
row_after-losses-requires c = losses_room c.before.before.before.before.before.before

-- a lost frame that is heard so, and one that is received
lost_then : (good so v : Bool) → good ≡ false → v ≡ so → v ≡ not good && so
lost_then good so v e h = rw e h

lost_else : (good so v : Bool) → good ≡ true → v ≡ not good → v ≡ not good && so
lost_else good so v e h = h ∙ rw e refl

pub loop-preserved : goal.loop-preserved
unfolding drawn good_at losses_at count_to heard_by
loop-preserved c =
    let inv = c.loop.invariant in
    let k = c.args.k in
    let x = kept w32 c.silk_rand-x.result c.silk_rand-x.type_inv ∙ c.silk_rand-x.ensures ∙ ap rand inv.0 in
    let hid : c.if-not-good.counted ≡ not c.loop.good && not c.silent-quiet.result =
    elim c.if-not-good.branch [ then-not-good w ↦ lost_then _ _ _ w.if-not-good.true w.counted-is | else-not-good w ↦ lost_else _ _ _ w.if-not-good.false w.counted-is ] in
    let mut : c.if-not-good-2.counted ≡ not c.loop.good && c.silent-quiet.result =
    elim c.if-not-good-2.branch [ then-not-good-2 w ↦ lost_then _ _ _ w.if-not-good-2.true w.counted-is | else-not-good-2 w ↦ lost_else _ _ _ w.if-not-good-2.false w.counted-is ] in
    let quiet = c.silent-quiet.ensures ∙ ap (silent c.args.squelch) inv.2 in
    let hidden = hid ∙ λ i. not (inv.1 i) && not (quiet i) in
    let mute = mut ∙ λ i. not (inv.1 i) && quiet i in (
      rw add-one x,
      rw add-one (c.turned-good.ensures ∙ λ i. turned k (unsigned (x i)) (inv.1 i)),
      rw add-one (c.row_after-losses.ensures ∙ λ i. cond (inv.1 i) 0 (suc (inv.2 i))),
      rw add-one (c.counted-received.ensures ∙ λ i. inv.3 i + cond (inv.1 i) 1 0),
      rw add-one (c.counted-concealed.ensures ∙ λ i. inv.4 i + cond (hidden i) 1 0),
      rw add-one (c.counted-squelched.ensures ∙ λ i. inv.5 i + cond (mute i) 1 0),
    )

pub returns : goal.returns
unfolding counts_of
returns c =
    let inv = c.loop.invariant in
    let f = to_z-of_z c.ranges.seed in
    let e : c.loop.counter ≡ c.args.frames = search rules in
    let q = c.args.squelch in
    let k = c.args.k in
    let a = inv.3 ∙ λ i. count_to as_received q k (f i) (e i) in
    let b = inv.4 ∙ λ i. count_to as_concealed q k (f i) (e i) in
    let d = inv.5 ∙ λ i. count_to as_squelched q k (f i) (e i) in
    λ i. record { received = a i; concealed = b i; squelched = d i }
