use Prim.Native.Nat.{ℕ, ◌+◌, ◌-◌, ◌/◌}
use mathlib.Core.Path.{◌≡◌, ◌∙◌}
use native.Mathlib.Omega.{arith}
use lib.IntN.{pos}
use lib.ListN.{length, drop, replicate}
use Rattle.shape.specs.Order.{size}
use Rattle.shape.proofs.Orders.{size_two}
use Rattle.nlsf.specs.Lines.{poly, coefficients_of}
use Rattle.nlsf.proofs.Polynomials.{length-poly, coefficients-front, order_even}
use Rattle.nlsf.proofs.from_cosines.Goals as goal

pub returns : goal.returns
unfolding coefficients_of
returns c =
    let d = size c.args.order in
    let o = order_even (size_two c.args.order) in
    let g = c.args.c.now in
    let l : (s : ℕ) → length (poly g s (d / 2 - 1)) ≡ d / 2 + 1 = λ s. length-poly g s (d / 2 - 1) ∙ omega arith in
    rw (c.lpc_coefficients.ensures, c.silk_nlsf2a_find_poly-q.ensures, c.silk_nlsf2a_find_poly-p.ensures, c.size-n.ensures, coefficients-front (poly g 0 (d / 2 - 1)) (poly g 1 (d / 2 - 1)) (drop (d / 2 + 1) (replicate 9 (pos 0))) d o.0 (l 0) (l 1))
