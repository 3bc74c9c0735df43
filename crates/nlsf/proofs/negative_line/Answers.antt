use mathlib.Core.Path.{◌∙◌}
use borrow.Author.Rules.{rules}
use borrow.Author.Tests.{tests}
use lib.IntN.{pos}
use lib.ListN.{take}
use lib.Signed.{lt_z}
use Rattle.std.proofs.lemmas.Iterator.{YieldsList-from_slice}
use Rattle.std.proofs.lemmas.Iterator.Search.{any_from_yields_List}
use Rattle.nlsf.proofs.Lines.{any_front}
use Rattle.nlsf.proofs.negative_line.Goals as goal

pub returns : goal.returns
returns c =
    let s = c.args in
    any_from_yields_List (λ x. lt_z x (pos 0)) _ _ c.any.result c.any.ensures.ran (YieldsList-from_slice (take s.d s.nlsf.now) cc) (λ x b q k. search (rules, tests))
    ∙ any_front s.nlsf.now s.d c.requires
