-- The records on a chain: few, and below the end.
use Prim.Native.Nat.{ℕ, zero, suc, ◌-◌, ◌≤◌, ◌<◌}
use mathlib.Core.Path.{◌≡◌, ◌∙◌}
use mathlib.Core.List.{List, [], ◌∷◌, ◌++◌}
use native.Mathlib.Omega.{arith}
use lib.ListN.{length, get_or, take, replicate, length-append, length-replicate}
use lib.Seq.{take-append_seam}
use Rattle.std.specs.Prelude.{Option, Some, None}
use Rattle.chain.specs.Chain.{next_of, records_in, chain_of, on_chain, padded}
use Rattle.chain.specs.Claims.{Reaches, start, next, Means}
use Rattle.chain.proofs.Chains.{chain_means, few}

append-below : (xs ys : List ℕ) (m : ℕ) → ((k : ℕ) → get_or xs k 0 < m) → ((k : ℕ) → get_or ys k 0 < m) → (k : ℕ) → get_or (xs ++ ys) k 0 < m
append-below [] ys m f g k = g k
append-below (x ∷ xs) ys m f g zero = f 0
append-below (x ∷ xs) ys m f g (suc k) = append-below xs ys m (λ j. f (suc j)) g k

one_below : (x m : ℕ) → x < m → (k : ℕ) → get_or (x ∷ []) k 0 < m
one_below x m h zero = h
one_below x m h (suc k) = omega arith

zeros-below : (n m : ℕ) → 0 < m → (k : ℕ) → get_or (replicate n 0) k 0 < m
zeros-below zero m h k = h
zeros-below (suc n) m h zero = h
zeros-below (suc n) m h (suc k) = zeros-below n m h k

reaches_below : (b met : List ℕ) (i : ℕ) → 0 < records_in b → Reaches b met i → (k : ℕ) → get_or met k 0 < records_in b
reaches_below b [] i h start k = h
reaches_below b _ _ h (next {met} {i} r z l f) k =
    append-below met (next_of b i ∷ []) (records_in b) (λ j. reaches_below b met i h r j) (one_below (next_of b i) (records_in b) l) k

-- what is on a chain
pub record Chained (b ks : List ℕ) : Type 0 where
  pub few : suc (length ks) ≤ records_in b
  pub below : (k : ℕ) → get_or ks k 0 < records_in b

pub chained : (b : List ℕ) → 0 < records_in b → Chained b (on_chain (chain_of b))
unfolding on_chain
chained b h = go (chain_of b) (chain_means b h)
  where
    go : (c : Option (List ℕ)) → Means b c → Chained b (on_chain c)
    go (Some ks) m = record { few = few b ks m.last h m.reached; below = reaches_below b ks m.last h m.reached }
    go None m = record { few = h; below = λ k. h }

module _ (ks : List ℕ) where
  pub padded-front : take (length ks) (padded ks) ≡ ks
  unfolding padded
  padded-front = take-append_seam ks (replicate (60 - length ks) 0)

  pub padded-length : length ks ≤ 60 → length (padded ks) ≡ 60
  unfolding padded
  padded-length h = length-append ks (replicate (60 - length ks) 0) ∙ omega (arith, length-replicate {A = ℕ} (60 - length ks) 0)

  pub padded-below : (m : ℕ) → 0 < m → ((k : ℕ) → get_or ks k 0 < m) → (k : ℕ) → get_or (padded ks) k 0 < m
  unfolding padded
  padded-below m h f k = append-below ks (replicate (60 - length ks) 0) m f (zeros-below (60 - length ks) m h) k
