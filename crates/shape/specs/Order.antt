-- Document 01, "Shape": filter order 10 at 8 and 12, 16 at 16.
use Rattle.std.specs.Prelude.{ℕ, Option, None, Some, cond, eqb}
use Rattle.shape.specs.declared.Order.TheVariants.{Ten, Sixteen}
use Rattle.shape.specs.declared.Order.{Order}

-- how many coefficients a filter of an order has
abbrev pub size : Order → ℕ
size Ten = 10
size Sixteen = 16

-- the order that a number is
abbrev pub order : ℕ → Option Order
order d = cond (eqb d 10) (Some Ten) (cond (eqb d 16) (Some Sixteen) None)
