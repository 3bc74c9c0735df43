use Prim.Native.Nat.{◌≤◌}
use mathlib.Core.Path.{◌≡◌, ap, ◌∙◌}
use native.Mathlib.Omega.{arith}
use borrow.Author.Rules.{rules}
use lib.IntN.{pos}
use lib.ListN.{length, take, drop, replicate}
use lib.Seq.{length-take-le, take_at}
use mir.Facts.{to_z-of_z}
use Rattle.shape.specs.Order.{size}
use Rattle.shape.proofs.Orders.{size_high}
use Rattle.nlsf.specs.Lines.{lpc_coefficients}
use Rattle.nlsf.specs.Filter.{stabilised, nlsf2a}
use Rattle.nlsf.specs.Fit.{Fit, lpc_fit}
use Rattle.nlsf.proofs.Polynomials.{length-coefficients}
use Rattle.nlsf.proofs.nlsf2a.Goals.{After-from_cosines-a}
use Rattle.nlsf.proofs.nlsf2a.Goals as goal

-- the array, in which the coefficients come first
room : (c : After-from_cosines-a) → let d = size c.args.order in (d ≤ length c.from_cosines-a.result) × (length (take d c.from_cosines-a.result) ≡ d)
room c =
    let d = size c.args.order in
    let n : length c.from_cosines-a.result ≡ 16 = search rules in
    let h : d ≤ length c.from_cosines-a.result = omega (arith, size_high c.args.order) in
    (h, length-take-le d c.from_cosines-a.result h)

pub returns : goal.returns
unfolding nlsf2a lpc_coefficients
returns c =
    let s = c.args in
    let d = size s.order in
    let a = lpc_coefficients s.nlsf.now d in
    let e : take c.size.result c.from_cosines-a.result ≡ a =
    rw (c.size.ensures, c.from_cosines-a.ensures, c.cosines-c.ensures) (take_at a (drop d (replicate 16 (pos 0))) d (length-coefficients s.nlsf.now d)) in
    ap (λ (x : Fit). x.q12) (rw (c.silk_lpc_fit.ensures) at c.stabilise.ensures ∙ (λ i. stabilised (to_z-of_z c.ranges.edition i) 16 0 (lpc_fit 10 (e i))))
