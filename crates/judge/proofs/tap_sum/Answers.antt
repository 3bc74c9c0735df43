use Prim.Native.Nat.{◌*◌, ◌<◌, ◌≤◌}
use mathlib.Core.Path.{◌≡◌, refl, ◌∙◌}
use mathlib.Core.List.{map-id}
use native.Mathlib.Omega.{arith}
use borrow.Author.Rules.{rules}
use lib.IntN.{pos, ◌+ℤ◌}
use lib.ListN.{length, take, drop}
use lib.Signed.{mag}
use mir.Syntax.{w16, w32}
use Rattle.std.proofs.lemmas.Iterator.{YieldsList-from_slice, YieldsList-from_map}
use Rattle.std.proofs.lemmas.Iterator.Adapters.{total_from_yields_List, at_most_from_yields_List}
use Rattle.word.proofs.Lists.{length_part}
use Rattle.word.proofs.Sizes.{fits-abs}
use Rattle.word.proofs.Totals.{sum_fits, sum_at_most}
use Rattle.word.proofs.Words.{kept}
use Rattle.judge.proofs.Sums.{by_fold}
use Rattle.judge.proofs.tap_sum.Goals as goal

pub sum-requires-clause-fits : goal.sum-requires-clause-fits
sum-requires-clause-fits c =
    let t = c.args.taps.now in
    let a = take 5 (drop (5 * c.args.k) t) in
    let n : length a ≤ 5 = omega (arith, length_part t (5 * c.args.k) 5 c.requires) in
    sum_fits _ _ 32768 5 (at_most_from_yields_List (YieldsList-from_slice a (search rules)) n) c.map.ensures.closure (omega arith)
    (λ x r q k. let f : mag x.now < 32768 = search rules in let e : (q ≡ _) × (r ≡ x.now) = search rules in (e.0, rw e.1 (fits-abs {w = w16} x.now (record { sfits = f }))))

pub returns : goal.returns
returns c =
    let t = c.args.taps.now in
    let a = take 5 (drop (5 * c.args.k) t) in
    let n : length a ≤ 5 = omega (arith, length_part t (5 * c.args.k) 5 c.requires) in
    let e = total_from_yields_List ◌+ℤ◌ (pos 0) c.sum.result c.sum.ensures.ran (YieldsList-from_map _ (λ x. x) (YieldsList-from_slice a (search rules)) c.map.ensures.closure (λ x r q k. search rules)) in
    let b = sum_at_most _ _ 32768 5 c.sum.result (at_most_from_yields_List (YieldsList-from_slice a (search rules)) n) c.map.ensures.closure
    (λ x r q k. let f : mag x.now < 32768 = search rules in let e : (q ≡ _) × (r ≡ x.now) = search rules in (e.0, rw e.1 (fits-abs {w = w16} x.now (record { sfits = f }))))
    c.sum.ensures.ran in
    let k = kept w32 c.sum.result c.sum.type_inv in
    (k ∙ rw (e, map-id a) (by_fold t c.args.k c.requires), rw k b)
