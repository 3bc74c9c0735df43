-- Document 02, Note 6: "Its filter for a vector is the one a post's noise would have from the same lines".
use Rattle.std.specs.Prelude.{Ok, ℕ, ◌≡◌, List, ℤ, length, take}
use Rattle.nlsf.specs.Filter.{nlsf2a_refusal, nlsf2a_of}
use Rattle.decoder.specs.declared.SilkCNGState.{SilkCNGState}
use Rattle.cng.specs.Noise.{noise_filter}

-- if the first d lines are those that noise holds and the call is not refused, it gives the filter of noise of order d under its edition
abbrev pub Announced : Type 0
Announced =
    (e : ℤ) (h : SilkCNGState) (lines out : List ℤ) (d : ℕ) → take d lines ≡ take d h.cng_smth_nlsf_q15
    → nlsf2a_refusal (length out) lines d e ≡ Ok tt
    → take d (nlsf2a_of out lines d e) ≡ noise_filter e d h
