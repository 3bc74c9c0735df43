-- Two lists, related place by place.
use Rattle.std.proofs.Common.{◌≡◌, ℕ, zero, suc, ◌<◌, List, [], ◌∷◌, map, length, get_or, take, set, refl, arith, subst}
use Rattle.std.specs.List.{AllZip}

module _ {A B : Type 0} (R : A → B → Type 0) where
  -- one place more
  pub each_turn : (xs : List A) (ys : List B) (i : ℕ) (x : A) (y : B) → i < length xs → i < length ys → x ≡ get_or xs i x → AllZip R (take i xs) (take i ys) → R x y
      → AllZip R (take (suc i) xs) (take (suc i) (set ys i y))
  each_turn [] ys i x y h k e all r = absurd (omega (arith, h))
  each_turn (a ∷ xs) [] i x y h k e all r = absurd (omega (arith, k))
  each_turn (a ∷ xs) (b ∷ ys) zero x y h k e all r = (subst (λ z. R z y) e r, tt)
  each_turn (a ∷ xs) (b ∷ ys) (suc i) x y h k e all r = (all.0, each_turn xs ys i x y (omega (arith, h)) (omega (arith, k)) e all.1 r)

  -- where the second is a function of the first
  pub map_of_each : (f : A → B) (xs : List A) (ys : List B) → AllZip R xs ys → ((x : A) (y : B) → R x y → y ≡ f x) → ys ≡ map f xs
  map_of_each f [] [] h g = refl
  map_of_each f [] (y ∷ ys) h g = absurd h
  map_of_each f (x ∷ xs) [] h g = absurd h
  map_of_each f (x ∷ xs) (y ∷ ys) h g = λ i. g x y h.0 i ∷ map_of_each f xs ys h.1 g i
