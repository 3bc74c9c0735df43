use Prim.Native.Nat.{◌+◌}
use mathlib.Core.Path.{◌≡◌, ◌∙◌}
use native.Mathlib.Numerals.{add-one}
use native.Mathlib.Omega.{arith}
use mir.Syntax.{w32, w64}
use mir.Val.{to_z, of_z}
use mir.Facts.{to_z-of_z}
use Rattle.std.specs.Prelude.{map}
use Rattle.std.proofs.lemmas.List.{map-set, length-map}
use Rattle.word.proofs.Words.{kept, got}
use Rattle.generator.proofs.Scales.{pick_by, pick-fits, picks-none, picks_more, drawn-next}
use Rattle.generator.proofs.picks.Goals as goal

pub loop-v-init : goal.loop-v-init
loop-v-init g c =
    let e : c.args.at + 0 ≡ c.args.at = omega arith in
    record {
      last = rw (e, kept w32 _ c.drawn-x.type_inv, c.drawn-x.ensures);
      stored = rw (picks-none (to_z w32 (of_z w32 c.args.low)) c.args.count (to_z w32 (of_z w32 c.args.seed)) c.args.at);
    }

pub narrowed-requires : goal.narrowed-requires
narrowed-requires g c =
    let a = c.args in
    let v = pick_by a.low a.count a.seed (a.at + c.loop-v.v-index) (to_z-of_z c.ranges.low) (to_z-of_z c.ranges.seed) c.loop-v.invariant.last (got w32 c.silk_rand-x.type_inv c.silk_rand-x.ensures) c.scaled.ensures in
    rw (kept w64 c.scaled.result c.scaled.type_inv, v) (pick-fits a.low a.count a.seed (a.at + c.loop-v.v-index) c.requires.0 c.requires.1)

pub loop-v-preserved : goal.loop-v-preserved
loop-v-preserved g c =
    let a = c.args in
    let l = c.loop-v in
    let r = c.silk_rand-x in
    let f = g.T.Number.number in
    let p = pick_by a.low a.count a.seed (a.at + c.loop-v.v-index) (to_z-of_z c.ranges.low) (to_z-of_z c.ranges.seed) c.loop-v.invariant.last (got w32 c.silk_rand-x.type_inv c.silk_rand-x.ensures) c.scaled.ensures in
    let v = c.narrowed.ensures ∙ got w64 c.scaled.type_inv p in
    record {
      last = rw (add-one, kept w32 _ r.type_inv, r.ensures, l.invariant.last) (drawn-next (to_z w32 (of_z w32 a.seed)) a.at l.v-index);
      stored = rw (map-set f l.to l.v-index c.narrowed.result, v, l.invariant.stored, to_z-of_z c.ranges.seed, to_z-of_z c.ranges.low, add-one)
          (picks_more (map f a.to.now) a.low a.count a.seed a.at l.v-index (rw (length-map a.to.now f) (omega arith)));
    }
