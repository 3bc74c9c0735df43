use mathlib.Core.Path.{ap, ◌∙◌, sym}
use native.Mathlib.Omega.{arith}
use borrow.Author.Rules.{rules}
use lib.IntN.{pos}
use lib.ListN.{take, get_or}
use lib.Seq.{get_or-take, length-take-le}
use Rattle.std.proofs.lemmas.List.{get_or-map}
use Rattle.std.proofs.lemmas.List.FromFn.{fill_by_all}
use Rattle.word.proofs.Each.{map_of_each}
use Rattle.post_recording.proofs.record_numbers.Goals as goal

pub slice_bounds-map_into-end : goal.slice_bounds-map_into-end
slice_bounds-map_into-end c = sym (length-take-le 59 c.args.records (search rules))

pub map_into-requires-clause-room : goal.map_into-requires-clause-room
map_into-requires-clause-room c = sym (length-take-le 59 c.args.records (search rules))

pub returns : goal.returns
returns c =
    let r = c.args.records in
    let n = length-take-le 59 r (search rules) in
    let m = map_of_each _ pos (take 59 r) _ c.map_into.ensures (λ x y h. search rules) in
    fill_by_all (λ j. pos (get_or r j 0)) c.map_into.new.to 59 (pos 0) (search rules)
    (λ k h. ap (λ xs. get_or xs k (pos 0)) m ∙ get_or-map pos (take 59 r) k 0 (pos 0) (omega (arith, n, h)) ∙ ap pos (get_or-take 59 r k 0 h))
