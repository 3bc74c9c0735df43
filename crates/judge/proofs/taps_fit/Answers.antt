use mathlib.Core.Path.{refl, sym, ◌∙◌}
use Rattle.std.proofs.Common.{arith, rules}
use Rattle.std.specs.List.{range_with_len}
use Rattle.std.proofs.lemmas.List.Folds.{list_all-map}
use Rattle.std.proofs.lemmas.Iterator.{YieldsList-from_range}
use Rattle.std.proofs.lemmas.Iterator.Search.{all_from_yields_List}
use Rattle.judge.specs.Taps.{tap_sum}
use Rattle.judge.proofs.Sums.{in_word, each_sum}
use Rattle.judge.proofs.taps_fit.Goals as goal

pub returns : goal.returns
returns c =
    let t = c.args.taps.now in
    let n = c.args.n in
    all_from_yields_List (λ k. in_word (tap_sum t k)) _ _ c.all.result c.all.ensures.ran (YieldsList-from_range 0 n n refl (omega arith)) (λ x b q k. search rules)
    ∙ sym (list_all-map in_word (tap_sum t) (range_with_len 0 n))
    ∙ each_sum t n
