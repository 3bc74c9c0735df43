use Prim.Native.Nat.{ℕ, ◌≤◌}
use Rattle.std.specs.Prelude.{None, Err}
use Rattle.std.proofs.lemmas.Result.{err_from_is_err_and}
use mathlib.Core.Path.{◌≡◌, refl, sym, ap, ◌∙◌}
use mathlib.Core.Bool.{false}
use mathlib.Core.List.{List}
use lib.IntN.{ℤ}
use lib.ListN.{length}
use lib.Seq.{length-take-le}
use mir.Facts.{to_z-of_z}
use Rattle.refusal.specs.First.{first_of}
use Rattle.refusal.specs.Refusals.{code_of}
use Rattle.refusal.specs.declared.Refusal.TheVariants.{Order}
use Rattle.shape.specs.Order.{size, order}
use Rattle.shape.proofs.Orders.{order_size, order_none}
use Rattle.nlsf.specs.Lines.{negative_line}
use Rattle.nlsf.specs.Filter.{nlsf2a_refusal, nlsf2a_of}
use Rattle.nlsf.proofs.Accepted.{accepted}
use Rattle.nlsf.proofs.silk_nlsf2a_under.Goals.{After-judge, In_ok-judge}
use Rattle.nlsf.proofs.silk_nlsf2a_under.Goals as goal

no_order : (n : ℕ) (lines : List ℤ) (d : ℕ) (e : ℤ) → order d ≡ None → nlsf2a_refusal n lines d e ≡ Err Order
unfolding nlsf2a_refusal first_of
no_order n lines d e h = rw (order_none d h) refl

pub returns-in_default : goal.returns-in_default
unfolding nlsf2a_of
returns-in_default c =
    let j = no_order _ c.args.nlsf.now _ c.args.edition (sym c.of.ensures ∙ c.in_default.is) in
    (sym j, rw j refl)

-- the order is the number d, and it was judged
is : (c : After-judge) → size c.in-Some.order ≡ c.args.d
is c = order_size _ (sym c.of.ensures ∙ c.in-Some.is)

judged : (c : After-judge) → c.judge.result ≡ nlsf2a_refusal (length c.args.a_q12.now) c.args.nlsf.now c.args.d c.args.edition
judged c = rw (to_z-of_z c.ranges.edition, is c) at c.judge.ensures

pub returns-in_err-judge : goal.returns-in_err-judge
unfolding nlsf2a_of
returns-in_err-judge c =
    let p = err_from_is_err_and c.from_residual.result c.from_residual.ensures.1 in
    let j = sym (judged (goal.at.returns-in_err-judge c).After-judge) ∙ c.in_err-judge.was in
    (rw (p.1, p.2) (sym j), rw j refl)

-- what holds of a call that is not refused
fits : (c : In_ok-judge) → (c.args.d ≤ length c.args.a_q12.now) × (c.args.d ≤ length c.args.nlsf.now) × (negative_line c.args.nlsf.now c.args.d ≡ false)
fits c =
    let a = accepted (length c.args.a_q12.now) c.args.nlsf.now c.args.d c.args.edition (ap code_of (sym (judged c.before.before) ∙ c.in_ok-judge.was)) in
    (a.1, a.2, a.3)

pub slice_bounds-nlsf2a-end : goal.slice_bounds-nlsf2a-end
slice_bounds-nlsf2a-end c = (fits c).0

pub slice_bounds-nlsf2a-end-2 : goal.slice_bounds-nlsf2a-end-2
slice_bounds-nlsf2a-end-2 c = sym (length-take-le _ _ (fits (goal.at.slice_bounds-nlsf2a-end-2 c).In_ok-judge).0)

pub nlsf2a-requires : goal.nlsf2a-requires
nlsf2a-requires c =
    let p = (goal.at.nlsf2a-requires c).In_ok-judge in
    let f = fits p in
    rw (is p.before.before) (length-take-le _ _ f.0, f.1, f.2)

pub returns : goal.returns
unfolding nlsf2a_of
returns c =
    let j = sym (judged (goal.at.returns c).After-judge) ∙ c.in_ok-judge.was in
    (sym j, rw (c.nlsf2a.ensures, to_z-of_z c.ranges.edition, is (goal.at.returns c).After-judge, j) refl)
