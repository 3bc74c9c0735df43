use mathlib.Core.Path.{◌≡◌, sym, ◌∙◌}
use mathlib.Core.Bool.{true, false}
use native.Mathlib.Nat.{le_antisymm}
use borrow.Author.Rules.{rules}
use lib.Dec.{lit<}
use lib.IntN.{pos}
use mir.Syntax.{w32}
use mir.Facts.{to_z-of_z}
use Rattle.word.specs.Int.{eq_ℤ}
use Rattle.word.proofs.Order.{is, isnt}
use Rattle.word.proofs.Words.{got}
use Rattle.stability.specs.Stability.{stability, inverse_gain}
use Rattle.nlsf.proofs.Rounds.{rounds_stop, rounds_go_on, rounds_end}
use Rattle.nlsf.proofs.stabilise.Invariants.{fit}
use Rattle.nlsf.proofs.stabilise.Goals.{After-inverse_pred_gain}
use Rattle.nlsf.proofs.stabilise.Goals as goal

-- the inverse gain of the coefficients in Q12
number : (c : After-inverse_pred_gain) → c.inverse_pred_gain.result ≡ inverse_gain (stability c.args.edition c.loop-i.a_q12)
number c =
    rw (c.inverse_pred_gain.ensures, to_z-of_z c.ranges.edition)

pub returns-then-inverse_pred_gain-ne0 : goal.returns-then-inverse_pred_gain-ne0
returns-then-inverse_pred_gain-ne0 c =
    let e : eq_ℤ (inverse_gain (stability c.args.edition c.loop-i.a_q12)) (pos 0) ≡ false = rw (← number (goal.at.returns-then-inverse_pred_gain-ne0 c).After-inverse_pred_gain) (isnt w32 c.inverse_pred_gain.result 0 c.if-inverse_pred_gain-ne0.true) in
    sym (rw (to_z-of_z c.ranges.edition) at c.loop-i.invariant.3 ∙ rounds_stop _ c.loop-i.a_q12 c.loop-i.a c.loop-i.i c.loop-i-test.true e)

pub loop-i-preserved : goal.loop-i-preserved
loop-i-preserved c =
    let f = to_z-of_z c.ranges.edition in
    let e : eq_ℤ (inverse_gain (stability c.args.edition c.loop-i.a_q12)) (pos 0) ≡ true =
    rw (← number (goal.at.loop-i-preserved c).After-inverse_pred_gain) (is w32 c.inverse_pred_gain.result 0 (lit< tt) (record { sfits = c.inverse_pred_gain.type_inv }) c.if-inverse_pred_gain-ne0.false) in (
      search rules,
      search rules,
      search rules,
      rw (f, c.rounded.ensures, c.silk_bwexpander_32.ensures, got w32 c.round_chirp.type_inv c.round_chirp.ensures)
          (rw f at c.loop-i.invariant.3 ∙ rounds_go_on _ c.loop-i.a_q12 c.loop-i.a c.loop-i.i c.loop-i-test.true e),
    )

pub returns : goal.returns
returns c =
    let e = le_antisymm c.loop-i.invariant.0 c.loop-i-test.false in
    sym (rw (to_z-of_z c.ranges.edition, e) at c.loop-i.invariant.3 ∙ rounds_end _ 16 (fit c.loop-i.a_q12 c.loop-i.a))
