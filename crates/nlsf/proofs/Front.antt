-- The filter from lines reads the first order lines alone.
use Prim.Native.Nat.{ℕ, zero, suc, ◌<◌}
use mathlib.Core.Path.{◌≡◌, refl, sym, ap, ◌∙◌}
use mathlib.Core.List.{List}
use native.Mathlib.Omega.{arith}
use lib.IntN.{ℤ, pos, nat_abs}
use lib.ListN.{get_or, take, set}
use lib.Seq.{get_or-take}
use Rattle.nlsf.specs.Lines.{ordering, lsf_cosine, cosines, coefficients_of, lpc_coefficients}
use Rattle.nlsf.specs.Fit.{lpc_fit}
use Rattle.nlsf.specs.Filter.{stabilised, nlsf2a}

cosines-front : (v w : List ℤ) (d n : ℕ) → ((k : ℕ) → k < n → get_or v k (pos 0) ≡ get_or w k (pos 0)) → cosines v d n ≡ cosines w d n
unfolding cosines
cosines-front v w d zero h = refl
cosines-front v w d (suc n) h = λ i. set (cosines-front v w d n (λ k l. h k (omega arith)) i) (ordering d n) (lsf_cosine (nat_abs (h n (omega arith) i)))

-- two vectors with the same first d lines have the same filter
pub same_filter : (e : ℤ) (v w : List ℤ) (d : ℕ) → take d v ≡ take d w → nlsf2a e v d ≡ nlsf2a e w d
unfolding nlsf2a lpc_coefficients
same_filter e v w d h =
    let c = cosines-front v w d d (λ k l. sym (get_or-take d v k (pos 0) l) ∙ ap (λ (xs : List ℤ). get_or xs k (pos 0)) h ∙ get_or-take d w k (pos 0) l) in
    ap (λ (c : List ℤ). (stabilised e 16 0 (lpc_fit 10 (coefficients_of c d))).q12) c
