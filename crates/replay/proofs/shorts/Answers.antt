use mathlib.Core.Path.{◌≡◌, sym, ◌∙◌}
use borrow.Author.Rules.{rules}
use lib.IntN.{pos}
use lib.ListN.{get_or}
use lib.Seq.{ext_get_or}
use Rattle.word.specs.Int.{wrap16}
use Rattle.word.specs.Tabulate.{tabulate}
use Rattle.word.proofs.Lists.{length-tabulate, get_or-tabulate}
use Rattle.replay.specs.Put.{shorts}
use Rattle.replay.proofs.shorts.Goals as goal

pub returns : goal.returns
unfolding shorts
returns c =
    let m = c.map.ensures.items in
    ext_get_or (pos 0) c.map.result (tabulate 64 (λ k. wrap16 (get_or c.args.row k (pos 0)))) (m.long ∙ sym (length-tabulate 64 (λ k. wrap16 (get_or c.args.row k (pos 0)))))
    (λ i l.
    let r = m.at i (pos 0) (pos 0) (rw m.long at l) in
    let h = r.2 in
    let e : get_or c.map.result i (pos 0) ≡ wrap16 (get_or c.args.row i (pos 0)) = search rules in
    e ∙ sym (get_or-tabulate 64 (λ k. wrap16 (get_or c.args.row k (pos 0))) i (rw m.long at l)))
