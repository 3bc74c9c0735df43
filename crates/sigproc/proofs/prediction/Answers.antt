use Rattle.std.proofs.Common.{◌≡◌, ◌+◌, ◌-◌, ◌/◌, length, take, drop, pos, refl, add-one, arith, w16, w32, length-drop, get_or-drop}
use native.Mathlib.Nat.{sub-zero}
use lib.Seq.{take_all}
use mir.Facts.{to_z_pos}
use Rattle.word.proofs.Words.{kept}
use Rattle.sigproc.specs.Synthesis.{prediction}
use Rattle.sigproc.proofs.Predict.{smlawb_swap}
use Rattle.sigproc.proofs.prediction.Goals as goal

pub loop-j-init : goal.loop-j-init
unfolding prediction
loop-j-init c = rw (to_z_pos w32 {n = length c.args.a.now / 2} (omega arith), sub-zero) refl

pub loop-j-preserved : goal.loop-j-preserved
unfolding prediction
loop-j-preserved c =
    let a = c.args in
    let j = c.loop-j.j in
    let p : a.at - 2 - j ≡ a.at - 1 - (j + 1) = omega arith in
    let e : 1 + j ≡ j + 1 = omega arith in
    let t : take (length a.a.now - 1) (drop 1 a.a.now) ≡ drop 1 a.a.now = take_all (length a.a.now - 1) (drop 1 a.a.now) (simp length-drop (omega arith)) in
    rw (
      add-one (j + 1),
      kept w32 _ c.silk_smlawb-sum.type_inv,
      c.silk_smlawb-sum.ensures,
      kept w32 c.wide16.result c.wide16.type_inv,
      c.wide16.ensures,
      kept w16 _ c.wide16-arg-1.given,
      kept w32 _ c.silk_smlawb-arg-1.given,
      t,
      get_or-drop 1 a.a.now j (pos 0),
      p,
      e,
      ← c.loop-j.invariant,
    )
    (smlawb_swap _ _ _ _ _)
