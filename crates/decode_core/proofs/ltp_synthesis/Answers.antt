use Prim.Native.Nat.{suc, ◌+◌, ◌<◌}
use mathlib.Core.Path.{◌≡◌, refl, sym, ◌∙◌}
use native.Mathlib.Numerals.{add-one}
use native.Mathlib.Nat.{le_antisymm}
use native.Mathlib.Omega.{arith}
use lib.IntN.{pos}
use lib.ListN.{length, get_or, take, take-append-drop}
use mir.Syntax.{w32}
use mir.Val.{to_z, of_z}
use Rattle.word.proofs.Words.{kept}
use Rattle.sigproc.proofs.Fill.{filled}
use Rattle.decode_core.specs.Core.{ltp_sample, ltp_past, ltp_synthesis}
use Rattle.decode_core.proofs.Pasts.{ltp_value, ltp_past-turn, ltp_res_turn}
use Rattle.decode_core.proofs.ltp_synthesis.Goals as goal

pub loop-i-init : goal.loop-i-init
unfolding ltp_past ltp_synthesis
loop-i-init c =
    let e : c.args.idx + 0 ≡ c.args.idx = omega arith in
    (rw e (sym (take-append-drop c.args.idx c.args.past.now)), refl)

pub loop-i-preserved : goal.loop-i-preserved
loop-i-preserved c =
    let a = c.args in
    let i = c.loop-i.i in
    let e : a.idx + (i + 1) ≡ suc (a.idx + i) = omega arith in
    let h : a.idx + i < length a.past.now = omega arith in
    let k : i < length a.res.now = omega arith in
    let x : to_z w32 (of_z w32 c.silk_add_lshift32-v.result) ≡ ltp_sample (ltp_past (take a.idx a.past.now) a.taps a.lag a.res.now i) a.taps a.lag (get_or a.res.now i (pos 0)) =
    kept w32 c.silk_add_lshift32-v.result c.silk_add_lshift32-v.type_inv ∙ c.silk_add_lshift32-v.ensures
    ∙ (rw (kept w32 (get_or c.loop-i.res i (pos 0)) c.silk_add_lshift32-arg-1.given, kept w32 c.ltp_prediction-p.result c.ltp_prediction-p.type_inv, c.ltp_prediction-p.ensures)
    (ltp_value a.past.now a.taps a.res.now a.idx a.lag i h k c.loop-i.past c.loop-i.res c.requires.0 (omega arith) c.loop-i.invariant.0 c.loop-i.invariant.1)) in (
      rw (e, add-one, kept w32 c.shl32.result c.shl32.type_inv, c.shl32.ensures, x) (ltp_past-turn a.past.now a.taps a.res.now a.idx a.lag i h k c.loop-i.past c.loop-i.invariant.0),
      rw (add-one, x) (ltp_res_turn a.past.now a.taps a.res.now a.idx a.lag i h k c.loop-i.res c.loop-i.invariant.1),
    )

pub returns : goal.returns
returns c =
    let r = c.args.res.now in
    let e = le_antisymm c.loop-i.auto.i-end c.loop-i-test.false in
    (rw (c.loop-i.invariant.0, e), rw (c.loop-i.invariant.1, e) (filled _ r (length r) (omega arith)))
