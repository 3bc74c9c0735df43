use mathlib.Core.Path.{ap, ◌∙◌}
use mathlib.Core.List.{[], ◌∷◌}
use lib.Dec.{ltb}
use lib.ListN.{length}
use mir.Syntax.{w32}
use Rattle.word.proofs.Words.{kept}
use Rattle.post_filters.specs.Calls.{called, cosine_call}
use Rattle.post_filters.proofs.Ends.{mapped}
use Rattle.post_filters.proofs.post_cosine.Goals as goal

pub returns : goal.returns
unfolding cosine_call
returns c =
    let lent = c.args.value.now in
    let short = ltb (length lent) 1 in
    (λ i. record { answer = kept w32 c.put_one.result c.put_one.type_inv i; slice = c.put_one.new.to })
    ∙ c.put_one.ensures
    ∙ mapped (λ x. x) _ (λ x y k. k) c.lsf_cos_at.result c.map.result c.map.ensures.cases short lent
    ∙ ap (λ r. called short (λ x. x ∷ []) r lent) c.lsf_cos_at.ensures
