use mathlib.Core.Path.{◌≡◌, ◌∙◌}
use mathlib.Core.List.{◌++◌}
use lib.ListN.{length}
use Rattle.sentence.specs.Sentence.{filled}
use Rattle.sentence.proofs.Texts.{drop-zeros}
use Rattle.sentence.proofs.filled.Goals as goal

pub returns : goal.returns
unfolding filled
returns c =
    let n = length c.args.text.now in
    let e : c.copy_from_slice.new.self ≡ c.args.text.now = c.copy_from_slice.ensures.after ∙ c.as_bytes.ensures.value in
    λ i. record { letters = e i ++ drop-zeros n 64 i; len = n }
