use Prim.Native.Nat.{ℕ, ◌<◌}
use mathlib.Core.Path.{◌≡◌, sym, ap, ◌∙◌}
use mathlib.Core.List.{List}
use native.Mathlib.Nat.{zero-add}
use lib.IntN.{ℤ, pos}
use lib.ListN.{length, get_or}
use lib.Signed.{mag}
use Rattle.std.proofs.Common.{arith, rules}
use Rattle.std.specs.List.{fold, enumerate_from}
use Rattle.std.proofs.lemmas.Iterator.{YieldsList-from_slice}
use Rattle.std.proofs.lemmas.Iterator.Consumers.{YieldsList-from_enumerate, fold_from_yields_List}
use Rattle.std.proofs.lemmas.List.FromFn.{length-enumerate_from, get_or-enumerate_from}
use Rattle.word.proofs.Totals.{fold_by_place}
use Rattle.nlsf.specs.declared.Largest.{Largest}
use Rattle.nlsf.specs.contracts.largest_by.F-Fn.{words}
use Rattle.nlsf.specs.Fit.{higher, largest_by}
use Rattle.nlsf.proofs.largest_by.Goals as goal

none : Largest
none = record { size = pos 0; place = 0 }

-- the numbers with their places one by one
by_place : (h : ℤ → ℤ) (a : List ℤ) → fold (λ p x. higher p (h x.1) x.0) none (enumerate_from 0 a) ≡ largest_by h a (length a)
unfolding largest_by none
by_place h a =
    fold_by_place (λ p x. higher p (h x.1) x.0) (largest_by h a) (enumerate_from 0 a) (0, pos 0)
    (λ n l.
    let e = get_or-enumerate_from 0 a n (0, pos 0) (omega (arith, l, length-enumerate_from 0 a)) in
    ap (λ (m : ℕ). higher (largest_by h a n) (h (get_or a n (pos 0))) m) (sym (zero-add n)) ∙ ap (λ x. higher (largest_by h a n) (h x.1) x.0) (sym e))
    ∙ ap (largest_by h a) (length-enumerate_from 0 a)

pub returns : goal.returns
unfolding none
returns g c h k =
    let a = c.args.a.now in
    fold_from_yields_List _ (λ p x. higher p (h x.1) x.0) none c.fold.result c.fold.ensures.ran (YieldsList-from_enumerate (YieldsList-from_slice a cc) cc)
    (λ p x b q i.
    let u : q ≡ _ = search rules in
    let f : mag x.1.now < 2147483648 = search rules in
    let e : (y : ℤ) × (words g.row.F g.F.Fn).post c.args.size x.1.now y × (b ≡ higher p y x.0) = search rules in
    (u, e.2 ∙ ap (λ y. higher p y x.0) (k x.1.now e.0 (record { sfits = f }) e.1)))
    ∙ by_place h a
