use Prim.Native.Nat.{◌<◌}
use mathlib.Core.Path.{◌≡◌, refl, ◌∙◌}
use mathlib.Core.List.{map-id}
use native.Mathlib.Omega.{arith}
use borrow.Author.Rules.{rules}
use lib.IntN.{pos, ◌+ℤ◌}
use lib.Signed.{mag}
use mir.Syntax.{w16, w32}
use Rattle.std.proofs.lemmas.Iterator.{YieldsList-from_slice, YieldsList-from_map}
use Rattle.std.proofs.lemmas.Iterator.Adapters.{total_from_yields_List, at_most_from_yields_List}
use Rattle.word.proofs.Sizes.{fits-abs}
use Rattle.word.proofs.Totals.{fold_by_place, sum_fits}
use Rattle.word.proofs.Words.{kept}
use Rattle.stability.specs.Stability.{total}
use Rattle.stability.proofs.dc_resp.Goals as goal

pub sum-requires-clause-fits : goal.sum-requires-clause-fits
sum-requires-clause-fits c =
    let a = c.args.c.a_q12.now in
    sum_fits _ _ 32768 16 (at_most_from_yields_List (YieldsList-from_slice a cc) c.args.c.few) c.map.ensures.closure (omega arith)
    (λ x r q k. let f : mag x.now < 32768 = search rules in let e : (q ≡ _) × (r ≡ x.now) = search rules in (e.0, rw e.1 (fits-abs {w = w16} x.now (record { sfits = f }))))

pub returns : goal.returns
unfolding total
returns c =
    let a = c.args.c.a_q12.now in
    let e = total_from_yields_List ◌+ℤ◌ (pos 0) c.sum.result c.sum.ensures.ran (YieldsList-from_map _ (λ x. x) (YieldsList-from_slice a cc) c.map.ensures.closure (λ x r q k. search rules)) in
    kept w32 c.sum.result c.sum.type_inv ∙ rw (e, map-id a) (fold_by_place ◌+ℤ◌ (total a) a (pos 0) (λ n h. refl))
