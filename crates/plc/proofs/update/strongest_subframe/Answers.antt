use Prim.Native.Nat.{◌+◌, ◌*◌, ◌-◌, ◌≤◌}
use mathlib.Core.Path.{◌≡◌, ◌∙◌}
use native.Mathlib.Numerals.{add-one}
use native.Mathlib.Omega.{arith}
use native.Mathlib.Nat.{mul-le-mul}
use borrow.Author.Rules.{rules}
use lib.IntN.{pos}
use lib.ListN.{get_or}
use mir.Syntax.{w32}
use mir.Val.{to_z, of_z}
use mir.Facts.{to_z_pos}
use Rattle.word.proofs.Words.{kept, got}
use Rattle.shape.proofs.Shapes.{rate_le}
use Rattle.plc.specs.Update.{strongest}
use Rattle.plc.proofs.update.strongest_subframe.Goals.{In-Some}
use Rattle.plc.proofs.update.strongest_subframe.Goals as goal

-- a turn counts one up and one subframe down
turn : (c : In-Some) → let s = c.loop-j.j-iterator in let t = c.next.new.self in (c.in-Some.j ≡ s.count) × (c.in-Some.k + 1 ≡ s.iter.iter.end) × (t.iter.iter.start ≡ s.iter.iter.start) × (t.iter.iter.end ≡ c.in-Some.k) × (t.count ≡ s.count + 1)
turn c = (search rules, search rules, search rules, search rules, search rules)

-- the place of a subframe from the frame's end
start : (c : In-Some) → c.in-Some.j * c.subfr_length-l.result ≤ 320
start c =
    let a : c.subfr_length-l.result ≤ 80 = omega (arith, c.subfr_length-l.ensures, rate_le (to_z w32 (of_z w32 c.args.khz))) in
    let t = turn c in
    let b : c.in-Some.j ≤ 4 = omega (arith, t.0, t.1) in
    mul-le-mul b a

pub loop-j-init : goal.loop-j-init
unfolding strongest
loop-j-init c = (search rules, search rules, search rules)

pub overflow_mul-start : goal.overflow_mul-start
overflow_mul-start c = record { fits = omega (arith, start (goal.at.overflow_mul-start c).In-Some) }

pub overflow_cast-start : goal.overflow_cast-start
overflow_cast-start c = record { sfits = omega (arith, start (goal.at.overflow_cast-start c).In-Some) }

pub loop-j-preserved : goal.loop-j-preserved
unfolding strongest
loop-j-preserved c =
    let a = c.args in
    let s = start (goal.at.loop-j-preserved c).In-Some in
    let t = turn (goal.at.loop-j-preserved c).In-Some in
    let k : c.in-Some.k ≡ a.subframes - 1 - c.loop-j.j-iterator.count = omega (arith, t.1, c.loop-j.invariant.1) in (
      t.2 ∙ c.loop-j.invariant.0,
      omega (arith, t.1, t.3, t.4, c.loop-j.invariant.1),
      rw (
        t.4,
        add-one,
        c.stronger-b.ensures,
        to_z_pos w32 {n = c.in-Some.j * c.subfr_length-l.result} (omega arith),
        c.subfr_length-l.ensures,
        kept w32 (get_or a.lags.now (a.subframes - 1) (pos 0)) c.last-1.given,
        got w32 c.tap_sum.type_inv c.tap_sum.ensures.0,
        kept w32 (get_or a.lags.now c.in-Some.k (pos 0)) c.stronger-arg-1.given,
        c.loop-j.invariant.2,
        t.0,
        k,
      ),
    )
