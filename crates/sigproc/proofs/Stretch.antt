-- The analysis filter over a stretch of a history leaves the residual of the whole, from the order on.
use Rattle.std.proofs.Common.{◌≡◌, ℕ, zero, suc, ◌+◌, ◌-◌, ◌<◌, ◌≤◌, List, length, get_or, take, drop, ℤ, pos, refl, sym, ap, ◌∙◌, arith, length-drop}
use borrow.Author.Tests.{le-ltb}
use lib.Seq.{ext_get_or, get_or-take, get_or-drop}
use Rattle.word.specs.Tabulate.{tabulate}
use Rattle.word.proofs.Lists.{length_part, length-tabulate, get_or-tabulate}
use Rattle.sigproc.specs.Analysis.{products, residual, analysis}
use Rattle.sigproc.proofs.Ranges.{length-analysis}

module _ (x a : List ℤ) (s n : ℕ) where
  sample : (i : ℕ) → i < n → get_or (take n (drop s x)) i (pos 0) ≡ get_or x (s + i) (pos 0)
  sample i h = get_or-take n (drop s x) i (pos 0) h ∙ get_or-drop s x i (pos 0)

  products-part : (i j : ℕ) → j ≤ i → i ≤ n → products (take n (drop s x)) a i j ≡ products x a (s + i) j
  unfolding products
  products-part i zero h k = refl
  products-part i (suc j) h k =
      let e : s + (i - 1 - j) ≡ s + i - 1 - j = omega arith in
      rw (products-part i j (omega arith) k, sample (i - 1 - j) (omega arith), e) refl

  residual-part : (d i : ℕ) → d ≤ i → i < n → residual (take n (drop s x)) a d i ≡ residual x a d (s + i)
  unfolding residual
  residual-part d i h k = rw (sample i k, products-part i d h (omega arith))

  pub whitened : (d m from : ℕ) → d + m ≡ n → s + n ≤ length x → s + d ≡ from → drop d (analysis (take n (drop s x)) a d) ≡ tabulate m (λ t. residual x a d (from + t))
  unfolding analysis
  whitened d m from e h f =
      let y = analysis (take n (drop s x)) a d in
      let g : ℕ → ℤ = λ t. residual x a d (from + t) in
      let p : length (take n (drop s x)) ≡ n = length_part x s n h in
      let l : length (drop d y) ≡ m = simp length-drop (omega (arith, length-analysis (take n (drop s x)) a d, p)) in
      ext_get_or (pos 0) (drop d y) (tabulate m g) (l ∙ sym (length-tabulate m g))
      (λ t k.
      let i : t < m = rw l at k in
      let j : s + (d + t) ≡ from + t = omega arith in
      get_or-drop d y t (pos 0)
      ∙ get_or-tabulate (length (take n (drop s x))) _ (d + t) (omega (arith, p))
      ∙ (rw (le-ltb (d + t) d (omega arith)) (residual-part d (d + t) (omega arith) (omega arith)))
      ∙ ap (residual x a d) j
      ∙ sym (get_or-tabulate m g t i))
