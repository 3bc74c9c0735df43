-- The filter from lines and noise's.
use mathlib.Core.Path.{ap, ◌∙◌}
use mathlib.Core.List.{◌++◌}
use lib.ListN.{take, drop}
use lib.Seq.{take_at}
use Rattle.refusal.specs.Refusals.{Judged, if_accepted}
use Rattle.nlsf.specs.Filter.{nlsf2a, nlsf2a_of}
use Rattle.nlsf.proofs.Front.{same_filter}
use Rattle.nlsf.proofs.Results.{length-nlsf2a}
use Rattle.cng.specs.Noise.{noise_filter}
use Rattle.cng.specs.Announced.{Announced}

pub announced : Announced
unfolding nlsf2a_of noise_filter
announced e h lines out d s k =
    ap (λ (j : Judged). take d (if_accepted j (nlsf2a e lines d ++ drop d out) out)) k
    ∙ take_at (nlsf2a e lines d) (drop d out) d (length-nlsf2a e lines d)
    ∙ same_filter e lines h.cng_smth_nlsf_q15 d s
