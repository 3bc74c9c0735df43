-- Document 02, Note 10: the filter from lines under each edition.
use Rattle.std.specs.Prelude.{ℕ, zero, suc, ◌≡◌, List, ℤ, pos, length, take, Ok}
use Rattle.edition.specs.Edition.{older, newer}
use Rattle.stability.specs.Stability.{answer_number, stability, inverse_gain}
use Rattle.editions.specs.Tests.{Fits}
use Rattle.nlsf.specs.Lines.{lpc_coefficients}
use Rattle.nlsf.specs.Fit.{Fit, lpc_fit}
use Rattle.nlsf.specs.Filter.{expanded, nlsf2a, nlsf2a_refusal, nlsf2a_of}

-- in no test that up to n rounds make, from round i on, does a step leave 32 bits
unfoldable pub RoundsFit : ℕ → ℕ → Fit → Type 0
RoundsFit zero i f = Unit
RoundsFit (suc n) i f =
    Fits (stability newer f.q12) × (inverse_gain (stability newer f.q12) ≡ pos 0 → RoundsFit n (suc i) (expanded i f))

-- if no step leaves 32 bits, both editions have the same filter
abbrev pub AlikeFilter : Type 0
AlikeFilter =
    (lines : List ℤ) (d : ℕ) → RoundsFit 16 0 (lpc_fit 10 (lpc_coefficients lines d)) → nlsf2a older lines d ≡ nlsf2a newer lines d

-- a filter that is given passes its own edition's test
abbrev pub StableFilter : Type 0
StableFilter =
    (out lines : List ℤ) (d : ℕ) (e : ℤ)
    → nlsf2a_refusal (length out) lines d e ≡ Ok tt
    → answer_number (stability e (take d (nlsf2a_of out lines d e))) ≡ 0
