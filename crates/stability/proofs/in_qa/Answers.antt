use Prim.Native.Nat.{◌^◌}
use mathlib.Core.Path.{◌≡◌, ap, ◌∙◌}
use mathlib.Core.List.{List, ◌++◌}
use borrow.Author.Rules.{rules}
use lib.IntN.{ℤ, pos, ◌*ℤ◌}
use lib.ListN.{length, drop, replicate}
use Rattle.word.specs.Int.{wrap32}
use Rattle.word.proofs.Each.{map_of_each}
use Rattle.stability.proofs.Sums.{qa_kept}
use Rattle.stability.proofs.in_qa.Goals as goal

pub returns : goal.returns
returns c =
    let a = c.args.c.a_q12.now in
    ap (λ (xs : List ℤ). xs ++ drop (length a) (replicate 16 (pos 0)))
    (map_of_each _ (λ x. x *ℤ pos (2 ^ 12)) a _ c.map_into.ensures (λ x y r. let e : y ≡ wrap32 (x *ℤ pos (2 ^ 12)) = search rules in e ∙ qa_kept x (search rules)))
