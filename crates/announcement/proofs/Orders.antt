-- A number that is no order.
use Prim.Native.Nat.{ℕ}
use mathlib.Core.Path.{◌≡◌, refl}
use mathlib.Core.Bool.{Bool, true, false, cond, not, ◌&&◌}
use lib.Dec.{eqb}
use Rattle.std.specs.Prelude.{None, Some}
use Rattle.std.specs.Option.{is_none}
use Rattle.shape.specs.Order.{order}
use Rattle.shape.specs.declared.Order.TheVariants.{Ten, Sixteen}

pub no_order : (d : ℕ) → is_none (order d) ≡ (not (eqb d 10) && not (eqb d 16))
no_order d = go (eqb d 10) (eqb d 16)
  where
    go : (a b : Bool) → is_none (cond a (Some Ten) (cond b (Some Sixteen) None)) ≡ (not a && not b)
    go true b = refl
    go false true = refl
    go false false = refl
