use mathlib.Core.Path.{ap, ◌∙◌}
use mathlib.Core.Bool.{cond}
use mathlib.Core.List.{[], ◌∷◌}
use lib.Dec.{ltb}
use lib.IntN.{pos}
use lib.ListN.{length}
use mir.Syntax.{w32}
use Rattle.word.proofs.Words.{kept, bool_number}
use Rattle.post_filters.specs.Calls.{called, rising_call}
use Rattle.post_filters.proofs.Ends.{mapped}
use Rattle.post_filters.proofs.post_rising.Goals as goal

pub returns : goal.returns
unfolding rising_call
returns c =
    let lent = c.args.answer.now in
    let short = ltb (length lent) 1 in
    (λ i. record { answer = kept w32 c.put_one.result c.put_one.type_inv i; slice = c.put_one.new.to })
    ∙ c.put_one.ensures
    ∙ mapped (λ b. cond b (pos 1) (pos 0)) _ (λ x y k. k ∙ bool_number x) c.rising_check.result c.map.result c.map.ensures.cases short lent
    ∙ ap (λ r. called short (λ x. cond x (pos 1) (pos 0) ∷ []) r lent) c.rising_check.ensures
