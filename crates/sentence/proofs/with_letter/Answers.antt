use mathlib.Core.Path.{◌≡◌}
use native.Mathlib.Omega.{arith}
use borrow.Author.Rules.{rules}
use lib.ListN.{length}
use Rattle.sentence.proofs.Texts.{with-one}
use Rattle.sentence.proofs.with_letter.Goals as goal

pub returns : goal.returns
returns c =
    let s = c.args.s in
    let l : length s.letters ≡ 64 = search rules in
    with-one s c.args.b (omega arith)
