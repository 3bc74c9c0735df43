use Rattle.std.proofs.Common.{ℕ, ◌+◌, ◌*◌, length, arith}
use Rattle.std.proofs.lemmas.List.FromFn.{fill_by_all}
use Rattle.le.proofs.read_words.Goals as goal

pub returns : goal.returns
returns g c =
    let l = c.loop-i in
    let f : ℕ → g.row.T.Denot = λ j. g.T.Word.word_at c.args.b.now (c.args.at + g.T.Word.SIZE * j) in
    fill_by_all f l.to (length c.args.to.now) (f 0) l.invariant.size (λ k h. l.invariant.read k (f 0) (omega (arith, h)))
