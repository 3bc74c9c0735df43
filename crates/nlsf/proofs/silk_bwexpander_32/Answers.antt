use Prim.Native.Nat.{◌<◌}
use mathlib.Core.Path.{◌≡◌, refl}
use mathlib.Core.List.{append-nil}
use native.Mathlib.Nat.{le_antisymm}
use native.Mathlib.Numerals.{add-one}
use borrow.Author.Rules.{rules}
use lib.IntN.{pos}
use lib.ListN.{length, get_or}
use lib.Seq.{drop-length}
use mir.Syntax.{w32}
use mir.Val.{to_z, of_z}
use mir.Facts.{to_z-of_z}
use Rattle.word.specs.Tabulate.{tabulate}
use Rattle.word.proofs.Lists.{tabulate-more, length-tabulate, rest_at}
use Rattle.word.proofs.Words.{kept, got}
use Rattle.nlsf.specs.Expand.{factor32, bwexpander32}
use Rattle.nlsf.proofs.silk_bwexpander_32.Invariants.{expanded}
use Rattle.nlsf.proofs.silk_bwexpander_32.Goals as goal

pub loop-x-init : goal.loop-x-init
unfolding tabulate factor32
loop-x-init c = (refl, refl, refl)

pub loop-x-preserved : goal.loop-x-preserved
unfolding factor32
loop-x-preserved c =
    let a = c.args.ar.now in
    let i = c.loop-x.x-index in
    let f = expanded (to_z w32 (of_z w32 c.args.chirp)) a in
    let n : i < length a = c.loop-x-test.true in
    let e : c.silk_smulww.result ≡ f i =
    rw (c.silk_smulww.ensures, kept w32 (get_or c.loop-x.ar i (pos 0)) c.silk_smulww-arg-1.given, c.loop-x.invariant.1, c.loop-x.invariant.2, rest_at (tabulate i f) a i (length-tabulate i f) n) in (
      search rules,
      rw (got w32 c.next_factor-f.type_inv c.next_factor-f.ensures, c.loop-x.invariant.1, add-one),
      rw (got w32 c.silk_smulww.type_inv e, c.loop-x.invariant.2, add-one) (tabulate-more a f i n),
    )

pub returns : goal.returns
unfolding bwexpander32
returns c =
    let a = c.args.ar.now in
    rw (c.loop-x.invariant.2, le_antisymm c.loop-x.auto.x-index-end c.loop-x-test.false, to_z-of_z c.ranges.chirp, drop-length a) (append-nil _)
