use Rattle.std.proofs.Common.{◌≡◌, ℕ, zero, suc, ◌-◌, ◌≤◌, Bool, true, false, ◌&&◌, List, [], ◌∷◌, length, take, drop, get_or, refl, sym, ap, ◌∙◌, arith}
use Rattle.std.specs.Prelude.{eqb}
use Rattle.std.specs.Cmp.Lexicographic.{pointwise}
use lib.ListN.{length-drop}
use lib.Seq.{take_all}
use Rattle.le.specs.Bytes.{same}
use Rattle.le.proofs.Places.{eqb_swap}
use Rattle.le.proofs.stands_at.Goals as goal

same-cons : (x y : ℕ) (a b : List ℕ) (n : ℕ) → same (x ∷ a) (y ∷ b) (suc n) ≡ (eqb y x && same a b n)
unfolding same
same-cons x y a b zero = eqb_swap x y ∙ go (eqb y x)
  where
    go : (t : Bool) → t ≡ (t && true)
    go true = refl
    go false = refl
same-cons x y a b (suc n) = ap (λ t. t && eqb (get_or a n 0) (get_or b n 0)) (same-cons x y a b n) ∙ go (eqb y x)
  where
    go : (t : Bool) → ((t && same a b n) && eqb (get_or a n 0) (get_or b n 0)) ≡ (t && (same a b n && eqb (get_or a n 0) (get_or b n 0)))
    go true = refl
    go false = refl

starts : (m d : List ℕ) → length m ≤ length d → pointwise eqb m (take (length m) d) ≡ same d m (length m)
unfolding same
starts [] d h = refl
starts (y ∷ m) [] h = absurd (omega arith)
starts (y ∷ m) (x ∷ d) h = ap (λ t. eqb y x && t) (starts m d (omega arith)) ∙ sym (same-cons x y d m (length m))

pub returns : goal.returns
returns c =
    let a = c.args in
    let n = length-drop a.at a.b.now in
    c.starts_with.ensures.value
    ∙ ap (λ s. pointwise eqb a.mark.now (take (length a.mark.now) s)) (take_all (length a.b.now - a.at) (drop a.at a.b.now) (omega (arith, n)))
    ∙ starts a.mark.now (drop a.at a.b.now) (omega (arith, n, c.requires))
