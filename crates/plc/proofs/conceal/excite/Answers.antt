use Prim.Native.Nat.{suc, ◌+◌}
use mathlib.Core.Path.{◌≡◌, refl}
use native.Mathlib.Numerals.{add-one}
use native.Mathlib.Nat.{le_antisymm}
use native.Mathlib.Omega.{arith}
use borrow.Author.Rules.{rules}
use mir.Syntax.{w16, w32}
use Rattle.word.proofs.Words.{kept, got}
use Rattle.plc.specs.Conceal.{excited_times}
use Rattle.plc.proofs.Excite.{seed_more, past_more}
use Rattle.plc.proofs.conceal.excite.Goals as goal

pub loop-i-init : goal.loop-i-init
unfolding excited_times
loop-i-init c =
    let a = c.args in
    let e : a.at + 0 ≡ a.at = omega arith in
    (search rules, refl, λ z. refl, λ z. rw e)

pub loop-i-preserved : goal.loop-i-preserved
loop-i-preserved c =
    let a = c.args in
    let m : a.at + (c.loop-i.i + 1) ≡ suc (a.at + c.loop-i.i) = omega arith in (
      search rules,
      search rules,
      λ z. rw (got w32 c.silk_rand-seed.type_inv c.silk_rand-seed.ensures, c.loop-i.invariant.2 z, add-one) (seed_more a.noise.now 0 a.lag c.loop-i.i _),
      λ z. rw (
        m,
        add-one,
        got w32 c.excited_sample.type_inv c.excited_sample.ensures,
        got w32 c.ltp_prediction-p.type_inv c.ltp_prediction-p.ensures,
        kept w32 _ c.drawn-1.given,
        c.noise_index.ensures.0,
        got w32 c.silk_rand-seed.type_inv c.silk_rand-seed.ensures,
        c.loop-i.invariant.2 z,
      )
          (past_more a.noise.now 0 a.lag c.loop-i.i _ c.loop-i.buf (a.at + c.loop-i.i) _ (omega arith) (omega arith) (omega arith) (omega arith) (c.loop-i.invariant.3 z)),
    )

pub returns : goal.returns
returns c =
    let k = c.args.k in
    let h = kept w16 k.scale_q14 c.struct_told-1.given.1.0.1 in
    let g = kept w32 k.seed c.struct_told-2-1.given.1.1.1.0.1 in
    let e = le_antisymm c.loop-i.invariant.0 c.loop-i-test.false in
    (rw (c.loop-i.invariant.2 k.pitch_q8, e, h, g), rw (← e, c.loop-i.invariant.3 k.pitch_q8, e, h, g))
