use mathlib.Core.Path.{ap, ◌∙◌}
use mir.Facts.{to_z-of_z}
use mir.Syntax.{w32}
use Rattle.std.proofs.Common.{rules}
use Rattle.std.proofs.lemmas.Iterator.{YieldsList-from_slice}
use Rattle.std.proofs.lemmas.Iterator.Consumers.{fold_from_yields_List}
use Rattle.word.proofs.Words.{kept}
use Rattle.checksum.specs.Sum.{mixed, sum_of}
use Rattle.checksum.proofs.sum.Goals as goal

pub returns : goal.returns
returns g c =
    let f = g.T.Number.number in
    let xs = c.args.numbers.now in
    kept w32 c.fold.result c.fold.type_inv
    ∙ fold_from_yields_List _ (λ s x. mixed s (f x)) _ c.fold.result c.fold.ensures.ran (YieldsList-from_slice xs cc) (λ a x b q k. search rules)
    ∙ ap (λ h. sum_of f h xs) (to_z-of_z c.ranges.h)
