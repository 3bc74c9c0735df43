-- What holds of a call that the filter from lines does not refuse.
use Prim.Native.Nat.{ℕ, ◌≤◌}
use mathlib.Core.Path.{◌≡◌, refl}
use mathlib.Core.Logic.{◌⊎◌, inl, inr}
use mathlib.Core.Bool.{Bool, true, false, not, ◌&&◌, ◌||◌}
use mathlib.Core.List.{List}
use native.Mathlib.Omega.{arith}
use borrow.Author.Tests.{ltb-false, eqb-true, not-false}
use lib.Dec.{ltb, eqb}
use lib.IntN.{ℤ}
use lib.ListN.{length}
use Rattle.refusal.specs.Refusals.{code_of}
use Rattle.refusal.proofs.Clear.{clear}
use Rattle.shape.specs.Order.{size}
use Rattle.shape.specs.declared.Order.TheVariants.{Ten, Sixteen}
use Rattle.shape.specs.declared.Order.{Order}
use Rattle.edition.specs.Edition.{is_edition}
use Rattle.nlsf.specs.Lines.{negative_line}
use Rattle.nlsf.specs.Filter.{order_refused, nlsf2a_refusal}
use Rattle.word.proofs.Rows.{neither}

-- of an order, row 13 is about the two lengths alone
pub lengths_refused : (n m : ℕ) (o : Order) → order_refused n m (size o) ≡ (ltb n (size o) || ltb m (size o))
lengths_refused n m Ten = refl
lengths_refused n m Sixteen = refl

one_of : (d : ℕ) → (not (eqb d 10) && not (eqb d 16)) ≡ false → (d ≡ 10) ⊎ (d ≡ 16)
one_of d = go (eqb d 10) (eqb d 16) refl refl
  where
    go : (a b : Bool) → eqb d 10 ≡ a → eqb d 16 ≡ b → (not a && not b) ≡ false → (d ≡ 10) ⊎ (d ≡ 16)
    go true b x y e = inl (eqb-true d 10 x)
    go false true x y e = inr (eqb-true d 16 y)
    go false false x y e = let z : ◌≡◌ {A = ℕ} 0 1 = cc in absurd (omega arith)

pub order_fits : (n m d : ℕ) → order_refused n m d ≡ false → ((d ≡ 10) ⊎ (d ≡ 16)) × (d ≤ n) × (d ≤ m)
order_fits n m d e =
    let a = neither (not (eqb d 10) && not (eqb d 16) || ltb n d) (ltb m d) e in
    let b = neither (not (eqb d 10) && not (eqb d 16)) (ltb n d) a.0 in
    (one_of d b.0, ltb-false n d b.1, ltb-false m d a.1)

pub accepted : (n : ℕ) (lines : List ℤ) (d : ℕ) (e : ℤ) → code_of (nlsf2a_refusal n lines d e) ≡ 0 → ((d ≡ 10) ⊎ (d ≡ 16)) × (d ≤ n) × (d ≤ length lines) × (negative_line lines d ≡ false) × (is_edition e ≡ true)
unfolding nlsf2a_refusal
accepted n lines d e h =
    let r = clear _ h in
    let o = order_fits n (length lines) d r.0 in
    (o.0, o.1, o.2, r.1.0, not-false (is_edition e) r.1.1.0)
