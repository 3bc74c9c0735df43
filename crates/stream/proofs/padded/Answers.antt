use Rattle.std.proofs.Common.{◌≡◌, ℕ, ◌∷◌, ◌++◌, ◌+◌, ◌-◌, length, replicate, set, ap, ◌∙◌, arith}
use Rattle.std.proofs.lemmas.List.{drop-replicate}
use borrow.Rule.Slice.PartMut.{post_of}
use Rattle.stream.proofs.padded.Goals as goal

-- the zeros behind n bytes more
behind : (m n x : ℕ) → m ≡ n → post_of 1 m (set (replicate 817 0) 0 x) ≡ replicate (816 - n) 0
behind m n x e = ap (λ (k : ℕ). post_of 1 k (set (replicate 817 0) 0 x)) e ∙ drop-replicate n 816 0

pub returns : goal.returns
returns c =
    let rest = c.args.rest.now in
    rw c.copy_from_slice.ensures.after (ap (λ w. c.args.kind ∷ rest ++ w) (behind (1 + length rest - 1) (length rest) c.args.kind (omega arith)))
