use borrow.Author.Rules.{rules}
use Rattle.word.specs.Int.{wrap16}
use Rattle.word.proofs.Each.{map_of_each}
use Rattle.nlsf.specs.Fit.{in_q12, rounded}
use Rattle.nlsf.proofs.rounded.Goals as goal

pub returns : goal.returns
unfolding rounded
returns c =
    map_of_each _ (λ x. wrap16 (in_q12 x)) c.args.a.now _ c.map_into.ensures (λ x y r. search rules)
