-- Lists whose numbers fit a width, whatever is taken, dropped, stored or joined.
use Prim.Native.Nat.{ℕ, zero, suc, ◌<◌}
use mathlib.Core.List.{List, [], ◌∷◌, ◌++◌, map}
use native.Mathlib.Omega.{arith}
use lib.IntN.{ℤ, pos}
use lib.ListN.{get_or, take, drop, set, replicate}
use lib.Pow.{pow_pos}
use mir.Syntax.{Width}
use mir.Val.{SFits, hbits}
use Rattle.word.specs.Tabulate.{tabulate}

pub zero_fits : (w : Width) → SFits w (pos 0)
zero_fits w = record { sfits = pow_pos (hbits w) }

-- each number of a list fits
abbrev pub AllFit : Width → List ℤ → Type 0
AllFit w xs = (i : ℕ) → SFits w (get_or xs i (pos 0))

module _ {w : Width} where
  pub nil_fits : AllFit w []
  nil_fits i = zero_fits w

  pub cons_fits : {x : ℤ} (xs : List ℤ) → SFits w x → AllFit w xs → AllFit w (x ∷ xs)
  cons_fits xs h t zero = h
  cons_fits xs h t (suc i) = t i

  pub one-fits : (x : ℤ) → SFits w x → AllFit w (x ∷ [])
  one-fits x h = cons_fits [] h nil_fits

  pub append-fits : (xs ys : List ℤ) → AllFit w xs → AllFit w ys → AllFit w (xs ++ ys)
  append-fits [] ys h k i = k i
  append-fits (x ∷ xs) ys h k zero = h 0
  append-fits (x ∷ xs) ys h k (suc i) = append-fits xs ys (λ j. h (suc j)) k i

  pub take-fits : (m : ℕ) (xs : List ℤ) → AllFit w xs → AllFit w (take m xs)
  take-fits zero xs h i = zero_fits w
  take-fits (suc m) [] h i = zero_fits w
  take-fits (suc m) (x ∷ xs) h zero = h 0
  take-fits (suc m) (x ∷ xs) h (suc i) = take-fits m xs (λ j. h (suc j)) i

  pub drop-fits : (m : ℕ) (xs : List ℤ) → AllFit w xs → AllFit w (drop m xs)
  drop-fits zero xs h i = h i
  drop-fits (suc m) [] h i = h i
  drop-fits (suc m) (x ∷ xs) h i = drop-fits m xs (λ j. h (suc j)) i

  pub set-fits : (xs : List ℤ) (k : ℕ) {v : ℤ} → AllFit w xs → SFits w v → AllFit w (set xs k v)
  set-fits [] k h g i = zero_fits w
  set-fits (x ∷ xs) zero h g zero = g
  set-fits (x ∷ xs) zero h g (suc i) = h (suc i)
  set-fits (x ∷ xs) (suc k) h g zero = h 0
  set-fits (x ∷ xs) (suc k) h g (suc i) = set-fits xs k (λ j. h (suc j)) g i

  pub replicate-fits : (n : ℕ) {v : ℤ} → SFits w v → AllFit w (replicate n v)
  replicate-fits zero h i = zero_fits w
  replicate-fits (suc n) h zero = h
  replicate-fits (suc n) h (suc i) = replicate-fits n h i

  pub map-fits : (f : ℤ → ℤ) (xs : List ℤ) → ((x : ℤ) → SFits w (f x)) → AllFit w (map f xs)
  map-fits f [] h i = zero_fits w
  map-fits f (x ∷ xs) h zero = h x
  map-fits f (x ∷ xs) h (suc i) = map-fits f xs h i

  -- a table whose elements fit as far as it reaches
  pub tabulate-fits : (n : ℕ) (f : ℕ → ℤ) → ((i : ℕ) → i < n → SFits w (f i)) → AllFit w (tabulate n f)
  unfolding tabulate
  tabulate-fits zero f h = nil_fits
  tabulate-fits (suc n) f h =
      append-fits (tabulate n f) (f n ∷ []) (tabulate-fits n f (λ i l. h i (omega arith))) (one-fits (f n) (h n (omega arith)))
