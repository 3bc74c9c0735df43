-- How many coefficients a filter of an order has: 10 or 16.
use Rattle.std.specs.Prelude.{Option, None, Some, is_some}
use Prim.Native.Nat.{ℕ, ◌≤◌, ◌%◌}
use mathlib.Core.Path.{◌≡◌, refl, sym, ap, ◌∙◌}
use mathlib.Core.Bool.{Bool, true, false, cond, not, ◌&&◌, false≢true}
use mathlib.Core.Logic.{◌⊎◌, inl, inr}
use borrow.Author.Tests.{eqb-true}
use lib.Dec.{eqb, lit≤}
use Rattle.shape.specs.Order.{size, order}
use Rattle.shape.specs.declared.Order.TheVariants.{Ten, Sixteen}
use Rattle.shape.specs.declared.Order.{Order}

pub size_two : (o : Order) → (size o ≡ 10) ⊎ (size o ≡ 16)
size_two Ten = inl refl
size_two Sixteen = inr refl

pub size_high : (o : Order) → size o ≤ 16
size_high Ten = lit≤ tt
size_high Sixteen = lit≤ tt

pub size_even : (o : Order) → size o % 2 ≡ 0
size_even Ten = refl
size_even Sixteen = refl

-- a number that is an order, and one that is none
abbrev size_of : Option Order → ℕ
size_of (Some o) = size o
size_of None = 0

pub order_size : {o : Order} (d : ℕ) → order d ≡ Some o → size o ≡ d
order_size {o} d h = sym (ap size_of h) ∙ go (eqb d 10) (eqb d 16) refl refl (ap is_some h)
  where
    go : (a b : Bool) → eqb d 10 ≡ a → eqb d 16 ≡ b → is_some (cond a (Some Ten) (cond b (Some Sixteen) None)) ≡ true → size_of (cond a (Some Ten) (cond b (Some Sixteen) None)) ≡ d
    go true b x y e = sym (eqb-true d 10 x)
    go false true x y e = sym (eqb-true d 16 y)
    go false false x y e = absurd (false≢true e)

pub order_none : (d : ℕ) → order d ≡ None → (not (eqb d 10) && not (eqb d 16)) ≡ true
order_none d h = go (eqb d 10) (eqb d 16) (ap is_some h)
  where
    go : (a b : Bool) → is_some (cond a (Some Ten) (cond b (Some Sixteen) None)) ≡ false → (not a && not b) ≡ true
    go true b e = absurd (false≢true (sym e))
    go false true e = absurd (false≢true (sym e))
    go false false e = refl
