use Prim.Native.Nat.{ℕ, ◌≤◌}
use mathlib.Core.Path.{◌≡◌, sym, ap, ◌∙◌}
use mathlib.Core.Bool.{◌||◌}
use borrow.Author.Tests.{ltb-false}
use lib.Dec.{ltb}
use lib.IntN.{ℤ}
use lib.ListN.{length}
use lib.Seq.{length-take-le}
use Rattle.word.proofs.Rows.{neither}
use Rattle.refusal.specs.Refusals.{code_of}
use Rattle.refusal.proofs.Clear.{clear}
use Rattle.stability.specs.Stability.{test_refusal}
use Rattle.stability.proofs.silk_lpc_inverse_pred_gain_under.Goals.{In_ok-judge}
use Rattle.stability.proofs.silk_lpc_inverse_pred_gain_under.Goals as goal

-- the order of a call that is not refused
order_fits : (n d : ℕ) (e : ℤ) → code_of (test_refusal n d e) ≡ 0 → (1 ≤ d) × (d ≤ 16) × (d ≤ n)
unfolding test_refusal
order_fits n d e h =
    let a = neither (ltb d 1 || ltb 16 d) (ltb n d) (clear _ h).0 in
    let b = neither (ltb d 1) (ltb 16 d) a.0 in
    (ltb-false d 1 b.0, ltb-false 16 d b.1, ltb-false n d a.1)

fits : (c : In_ok-judge) → (1 ≤ c.args.order) × (c.args.order ≤ 16) × (c.args.order ≤ length c.args.a_q12.now)
fits c = order_fits _ _ _ (ap code_of (sym c.judge.ensures ∙ c.in_ok-judge.was))

pub slice_bounds-c-end : goal.slice_bounds-c-end
slice_bounds-c-end c = sym (length-take-le _ _ (fits (goal.at.slice_bounds-c-end c).In_ok-judge).2)

pub invariant_of-c : goal.invariant_of-c
invariant_of-c c = let f = fits (goal.at.invariant_of-c c).In_ok-judge in rw (length-take-le _ _ f.2) (record { some = f.0; few = f.1 })
