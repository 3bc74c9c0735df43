use Prim.Native.Nat.{ℕ, suc, ◌+◌, ◌-◌, ◌/◌, ◌≤◌, ◌<◌}
use mathlib.Core.Path.{◌≡◌, refl, sym, ap, ◌∙◌}
use mathlib.Core.List.{List, [], ◌∷◌, ◌++◌}
use native.Mathlib.Numerals.{add-one}
use native.Mathlib.Omega.{arith}
use lib.ListN.{length, take, length-set}
use lib.Seq.{take-suc-set}
use Rattle.chain.specs.Chain.{records_in, next_of, is_among, chain_from, chain_of, padded, route_of}
use Rattle.chain.proofs.Chains.{found}
use Rattle.chain.proofs.Steps.{whole, step_end, step-none, step_past, step-met, step-on, records_more, route_through}
use borrow.Author.Rules.{rules}
use Rattle.chain.proofs.chain.Goals.{After-contains, Else-next-eq0}
use Rattle.chain.proofs.chain.Goals as goal

-- a number that is not 0
on : (c : Else-next-eq0) → next_of c.args.bytes.now c.loop-k.at ≡ 0 → ⊥
on c e = c.if-next-eq0.false (c.next_of-next.ensures ∙ e)

-- the number is below the end, and whether it was met
module _ (c : After-contains) where
  next-is : c.next_of-next.result ≡ next_of c.args.bytes.now c.loop-k.at
  next-is = c.next_of-next.ensures

  below : next_of c.args.bytes.now c.loop-k.at < records_in c.args.bytes.now
  unfolding records_in
  below = let t = c.if-next-n.false in omega (arith, next-is)

  met-is : c.contains.result ≡ is_among (next_of c.args.bytes.now c.loop-k.at) (take c.loop-k.k c.loop-k.records)
  met-is = c.contains.ensures.value ∙ found c.next_of-next.result (take c.loop-k.k c.loop-k.records) ∙ ap (λ (k : ℕ). is_among k (take c.loop-k.k c.loop-k.records)) next-is

pub loop-k-init : goal.loop-k-init
unfolding records_in chain_of padded
loop-k-init c =
    let w = whole (length c.args.bytes.now) c.requires in
    let n = length c.args.bytes.now / 1024 in
    let e : n - 1 ≡ n - 1 - 0 = omega arith in (
      refl,
      w.most,
      omega (arith, w.all),
      w.some,
      w.some,
      refl,
      refl,
      ap (λ (m : ℕ). chain_from c.args.bytes.now m [] 0) e,
    )

pub returns-then-next-eq0 : goal.returns-then-next-eq0
returns-then-next-eq0 c =
    let b = c.args.bytes.now in
    let i = c.loop-k.invariant in
    route_through b c.loop-k.records c.loop-k.k
    (i.7 ∙ step_end b (take c.loop-k.k c.loop-k.records) c.loop-k.at (length b / 1024 - 1 - c.loop-k.k) (sym c.next_of-next.ensures ∙ c.if-next-eq0.true))
    i.6 i.5 (omega arith)

pub returns-then-k-n : goal.returns-then-k-n
returns-then-k-n c =
    let b = c.args.bytes.now in
    let met = take c.loop-k.k c.loop-k.records in
    let z : length b / 1024 - 1 - c.loop-k.k ≡ 0 = let t = c.if-k-n.true in omega arith in
    ap route_of (sym (c.loop-k.invariant.7 ∙ ap (λ (m : ℕ). chain_from b m met c.loop-k.at) z ∙ step-none b met c.loop-k.at (on (goal.at.returns-then-k-n c).Else-next-eq0)))

pub returns-then-next-n : goal.returns-then-next-n
unfolding records_in
returns-then-next-n c =
    let b = c.args.bytes.now in
    let h : records_in b ≤ next_of b c.loop-k.at = let t = c.if-next-n.true in omega (arith, c.next_of-next.ensures) in
    ap route_of (sym (c.loop-k.invariant.7 ∙ step_past b (take c.loop-k.k c.loop-k.records) c.loop-k.at (length b / 1024 - 1 - c.loop-k.k) (on (goal.at.returns-then-next-n c).Else-next-eq0) h))

pub returns-then-contains : goal.returns-then-contains
returns-then-contains c =
    let b = c.args.bytes.now in
    let met = take c.loop-k.k c.loop-k.records in
    let a = (goal.at.returns-then-contains c).After-contains in
    ap route_of (sym (c.loop-k.invariant.7 ∙ step-met b met c.loop-k.at (length b / 1024 - 1 - c.loop-k.k) (on (goal.at.returns-then-contains c).Else-next-eq0) (below a) (sym (met-is a) ∙ c.if-contains.true)))

pub loop-k-preserved : goal.loop-k-preserved
loop-k-preserved c =
    let b = c.args.bytes.now in
    let n = length b / 1024 in
    let at = c.loop-k.at in
    let a = (goal.at.loop-k-preserved c).After-contains in
    let i = c.loop-k.invariant in
    let v = c.next_of-next.result in
    let k = c.loop-k.k in
    let r = c.loop-k.records in
    let met = take k r in
    let e : n - 1 - k ≡ suc (n - 1 - (k + 1)) = let t = c.if-k-n.false in omega (arith, i.4) in (
      i.0,
      i.1,
      i.2,
      search rules,
      search rules,
      length-set r k v ∙ i.5,
      records_more r k v i.5 (omega arith) i.6,
      i.7 ∙ ap (λ (m : ℕ). chain_from b m met at) e
          ∙ step-on b met at (n - 1 - (k + 1)) (on (goal.at.loop-k-preserved c).Else-next-eq0) (below a) (sym (met-is a) ∙ c.if-contains.false)
          ∙ ap (λ (m : ℕ). chain_from b (n - 1 - (k + 1)) (met ++ m ∷ []) m) (sym (next-is a))
          ∙ ap (λ (t : List ℕ). chain_from b (n - 1 - (k + 1)) t v) (sym (rw (add-one k) (take-suc-set r k v (omega arith)))),
    )
