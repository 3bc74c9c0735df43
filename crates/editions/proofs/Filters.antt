-- The filter from lines, where no step of its tests leaves 32 bits.
use Prim.Native.Nat.{ℕ, zero, suc}
use mathlib.Core.Path.{◌≡◌, refl, ap, ◌∙◌}
use mathlib.Core.Bool.{Bool, true, false, cond}
use lib.IntN.{ℤ, pos}
use Rattle.word.specs.Int.{eq_ℤ}
use Rattle.word.proofs.Order.{eq_ℤ_true}
use Rattle.edition.specs.Edition.{older, newer}
use Rattle.stability.specs.Stability.{Stability, stability, inverse_gain}
use Rattle.editions.proofs.Tests.{alike}
use Rattle.nlsf.specs.Lines.{lpc_coefficients}
use Rattle.nlsf.specs.Fit.{Fit, lpc_fit}
use Rattle.nlsf.specs.Filter.{expanded, stabilised, nlsf2a}
use Rattle.editions.specs.Filters.{RoundsFit, AlikeFilter}

alike_rounds : (n i : ℕ) (f : Fit) → RoundsFit n i f → stabilised older n i f ≡ stabilised newer n i f
unfolding stabilised RoundsFit
alike_rounds zero i f h = refl
alike_rounds (suc n) i f h =
    ap (λ (s : Stability). cond (eq_ℤ (inverse_gain s) (pos 0)) (stabilised older n (suc i) (expanded i f)) f) (alike f.q12 h.0)
    ∙ go (eq_ℤ gain (pos 0)) refl (λ e. alike_rounds n (suc i) (expanded i f) (h.1 e))
  where
    gain : ℤ
    gain = inverse_gain (stability newer f.q12)

    go : (b : Bool) → eq_ℤ gain (pos 0) ≡ b → (gain ≡ pos 0 → stabilised older n (suc i) (expanded i f) ≡ stabilised newer n (suc i) (expanded i f))
        → cond b (stabilised older n (suc i) (expanded i f)) f ≡ cond b (stabilised newer n (suc i) (expanded i f)) f
    go true e k = k (eq_ℤ_true _ _ e)
    go false e k = refl

pub alike_filter : AlikeFilter
unfolding nlsf2a
alike_filter lines d h = ap (λ (f : Fit). f.q12) (alike_rounds 16 0 (lpc_fit 10 (lpc_coefficients lines d)) h)
