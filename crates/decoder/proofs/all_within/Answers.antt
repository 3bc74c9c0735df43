use mathlib.Core.List.{map}
use mathlib.Core.Path.{sym, ap, ◌∙◌}
use lib.ListN.{take}
use Rattle.std.proofs.Common.{rules}
use Rattle.std.specs.List.{list_all}
use Rattle.std.proofs.lemmas.List.{take-map, length-map}
use Rattle.std.proofs.lemmas.List.Folds.{list_all-map}
use Rattle.std.proofs.lemmas.Iterator.{YieldsList-from_slice}
use Rattle.std.proofs.lemmas.Iterator.Search.{all_from_yields_List}
use Rattle.decoder.specs.Ranges.{within}
use Rattle.decoder.proofs.Each.{each_within}
use Rattle.decoder.proofs.all_within.Goals as goal

pub returns : goal.returns
returns g c =
    let a = c.args in
    let f = g.T.Number.number in
    let p = within a.low a.high in
    all_from_yields_List (λ x. p (f x)) _ _ c.all.result c.all.ensures.ran (YieldsList-from_slice (take a.n a.xs.now) cc) (λ x b q k. search rules)
    ∙ sym (list_all-map p f (take a.n a.xs.now))
    ∙ ap (list_all p) (sym (take-map f a.n a.xs.now))
    ∙ each_within a.low a.high (map f a.xs.now) a.n (rw length-map c.requires)
