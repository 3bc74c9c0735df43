-- A loop that fills a list from the front: what it has made, and the rest as it was.
use Rattle.std.proofs.Common.{◌≡◌, ℕ, zero, suc, ◌+◌, ◌-◌, ◌<◌, ◌≤◌, cond, ltb, List, [], ◌∷◌, ◌++◌, map, length, get_or, drop, set, ℤ, pos, refl, sym, ap, ◌∙◌, arith, replicate, append-nil, length-append, add-one, lt-ltb, le-ltb, drop_of_length-le, ext_get_or}
use Rattle.std.proofs.lemmas.List.{length-map, get_or-map, length-replicate, get_or-replicate}
use Rattle.word.specs.Tabulate.{tabulate}
use Rattle.word.proofs.Lists.{length-tabulate, get_or-tabulate, tabulate-more, tabulate_cong}
use borrow.Rule.Slice.PartMut.{put_mid}
use lib.Seq.{take_at, drop_at}
use mathlib.Core.List.{append_assoc}
use Rattle.std.proofs.Math.Nat.{add-zero, add-suc}

-- one more
pub turn : (d : List ℤ) (f : ℕ → ℤ) (i : ℕ) (out : List ℤ) (v : ℤ) → i < length d → out ≡ tabulate i f ++ drop i d → v ≡ f i
    → set out i v ≡ tabulate (i + 1) f ++ drop (i + 1) d
turn d f i out v h e k = rw (add-one i, e, k) (tabulate-more d f i h)

-- at the end nothing is left of what was there
pub filled : (p d : List ℤ) (n : ℕ) → length d ≤ n → p ++ drop n d ≡ p
filled p d n h = rw (drop_of_length-le d {i = n} h) (append-nil p)

-- a list, mapped, is the table of its elements' values
pub map-table : (f : ℤ → ℤ) (xs : List ℤ) → tabulate (length xs) (λ i. f (get_or xs i (pos 0))) ≡ map f xs
map-table f xs =
    let g : ℕ → ℤ = λ i. f (get_or xs i (pos 0)) in
    ext_get_or (pos 0) (tabulate (length xs) g) (map f xs) (length-tabulate (length xs) g ∙ sym (length-map xs f))
    (λ i h. let k : i < length xs = rw (length-tabulate (length xs) g) at h in get_or-tabulate (length xs) g i k ∙ sym (get_or-map f xs i (pos 0) (pos 0) k))

-- a table of zeros
pub all-zeros : (f : ℕ → ℤ) (n : ℕ) → ((i : ℕ) → i < n → f i ≡ pos 0) → tabulate n f ≡ replicate n (pos 0)
all-zeros f n z =
    ext_get_or (pos 0) (tabulate n f) (replicate n (pos 0)) (length-tabulate n f ∙ sym (length-replicate n (pos 0)))
    (λ i h. let k : i < n = rw (length-tabulate n f) at h in get_or-tabulate n f i k ∙ z i k ∙ sym (get_or-replicate n i (pos 0) (pos 0) k))

-- a table is that of its first places, and that of those behind them
tabulate-append : (d m : ℕ) (f : ℕ → ℤ) → tabulate (d + m) f ≡ tabulate d f ++ tabulate m (λ j. f (d + j))
unfolding tabulate
tabulate-append d zero f = rw (add-zero d) (sym (append-nil (tabulate d f)))
tabulate-append d (suc m) f = rw (add-suc d m, tabulate-append d m f) (append_assoc (tabulate d f) (tabulate m (λ j. f (d + j))) (f (d + m) ∷ []))

-- zeros, and behind them a table
pub zeros_then : (d n : ℕ) (f : ℕ → ℤ) → d ≤ n → replicate d (pos 0) ++ tabulate (n - d) (λ j. f (d + j)) ≡ tabulate n (λ i. cond (ltb i d) (pos 0) (f i))
zeros_then d n f h =
    let g : ℕ → ℤ = λ i. cond (ltb i d) (pos 0) (f i) in
    let e : d + (n - d) ≡ n = omega arith in
    let z : tabulate d g ≡ replicate d (pos 0) = all-zeros g d (λ i k. rw (lt-ltb i d k) refl) in
    let t : tabulate (n - d) (λ j. g (d + j)) ≡ tabulate (n - d) (λ j. f (d + j)) =
    tabulate_cong (n - d) (λ j. g (d + j)) (λ j. f (d + j)) (λ j k. rw (le-ltb (d + j) d (omega arith)) refl)
    in
    (λ i. sym z i ++ sym t i) ∙ sym (tabulate-append d (n - d) g) ∙ ap (λ (m : ℕ). tabulate m g) e

-- a list whose end, from place d on, was replaced
pub end_new : (z w y : List ℤ) (d : ℕ) → length z ≡ d → put_mid d (length (z ++ w) - d) (z ++ w) y ≡ z ++ y
end_new z w y d h =
    let l : length (z ++ w) ≡ d + length w = length-append z w ∙ ap (λ (n : ℕ). n + length w) h in
    rw (take_at z w d h, drop_at z w d h, drop_of_length-le w {i = length (z ++ w) - d} (omega (arith, l)), append-nil y) refl
