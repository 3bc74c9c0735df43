-- A chain: which records it reaches, and that it is broken only by a number past the end or met before.
use Prim.Native.Nat.{ℕ, zero, suc, ◌+◌, ◌-◌, ◌≤◌, ◌<◌}
use mathlib.Core.Path.{◌≡◌, refl, sym, ap, ◌∙◌}
use mathlib.Core.Bool.{Bool, true, false, cond, ◌||◌}
use mathlib.Core.Logic.{◌⊎◌, inl, inr}
use mathlib.Core.List.{List, [], ◌∷◌, ◌++◌}
use native.Mathlib.Omega.{arith}
use borrow.Author.Tests.{eqb-true, eqb-false, ne_eqb, leb-true, leb-false}
use lib.Dec.{eqb, leb}
use lib.ListN.{length, length-append}
use Rattle.std.specs.Prelude.{Some, None}
use Rattle.std.specs.List.{list_any}
use Rattle.std.proofs.Math.Bool.{or-false}
use Rattle.std.proofs.lemmas.List.Recursion.{or_push}
use Rattle.le.proofs.Places.{eqb_swap}
use Rattle.chain.specs.Chain.{next_of, records_in, is_among, chain_from, chain_of}
use Rattle.chain.specs.Claims.{Reaches, start, next, Means, ChainMeans, FewFrames}

-- how many of the numbers below m are among xs
unfoldable held : List ℕ → ℕ → ℕ
held xs zero = 0
held xs (suc m) = held xs m + cond (is_among m xs) 1 0

pub among_snoc : (j k : ℕ) (xs : List ℕ) → is_among j (xs ++ k ∷ []) ≡ (is_among j xs || eqb j k)
unfolding is_among
among_snoc j k xs = or_push (is_among j) (eqb j) refl (λ x ys. refl) xs k

-- a number is found among others
pub found : (k : ℕ) (xs : List ℕ) → list_any (λ y. eqb y k) xs ≡ is_among k xs
unfolding is_among
found k [] = refl
found k (x ∷ xs) = λ i. eqb_swap x k i || found k xs i

bit_other : (j k : ℕ) (xs : List ℕ) → (j ≡ k → ⊥) → is_among j (xs ++ k ∷ []) ≡ is_among j xs
bit_other j k xs h = among_snoc j k xs ∙ ap (λ (t : Bool). is_among j xs || t) (ne_eqb j k h) ∙ or-false (is_among j xs)

held_low : (k m : ℕ) (xs : List ℕ) → m ≤ k → held (xs ++ k ∷ []) m ≡ held xs m
unfolding held
held_low k zero xs h = refl
held_low k (suc m) xs h =
    let e = held_low k m xs (omega arith) in
    let n = bit_other m k xs (λ p. omega (arith, p)) in
    λ i. e i + cond (n i) 1 0

-- one number more
held_more : (k m : ℕ) (xs : List ℕ) → is_among k xs ≡ false → k < m → held (xs ++ k ∷ []) m ≡ suc (held xs m)
unfolding held
held_more k zero xs f h = elim h [ ]
held_more k (suc m) xs f h = go (λ l. held_more k m xs f l) (eqb m k) refl
  where
    go : (k < m → held (xs ++ k ∷ []) m ≡ suc (held xs m)) → (t : Bool) → eqb m k ≡ t → held (xs ++ k ∷ []) (suc m) ≡ suc (held xs (suc m))
    go again true e =
        let q = eqb-true m k e in
        let a : is_among m (xs ++ k ∷ []) ≡ true = among_snoc m k xs ∙ ap (λ (j : ℕ). is_among j xs || eqb m k) q ∙ (λ i. f i || e i) in
        let b : is_among m xs ≡ false = ap (λ (j : ℕ). is_among j xs) q ∙ f in
        let l = held_low k m xs (omega (arith, q)) in
        rw (a, b, l) (omega arith)
    go again false e =
        let d = eqb-false m k e in
        let n = bit_other m k xs d in
        let l = again (omega (arith, d)) in
        rw (n, l) (omega arith)

held_le : (m : ℕ) (xs : List ℕ) → is_among 0 xs ≡ false → held xs (suc m) ≤ m
unfolding held
held_le zero xs f = rw f (omega arith)
held_le (suc m) xs f =
    let h = held_le m xs f in
    go (is_among (suc m) xs) h
  where
    go : (t : Bool) → held xs (suc m) ≤ m → held xs (suc m) + cond t 1 0 ≤ suc m
    go true h = omega arith
    go false h = omega arith

no_zero : (b met : List ℕ) (i : ℕ) → Reaches b met i → is_among 0 met ≡ false
unfolding is_among
no_zero b [] i start = refl
no_zero b _ _ (next {met} {i} r z l f) = bit_other 0 (next_of b i) met (λ p. z (sym p)) ∙ no_zero b met i r

held_empty : (m : ℕ) → held [] m ≡ 0
unfolding held is_among
held_empty zero = refl
held_empty (suc m) = rw (held_empty m) refl

held-is : (b met : List ℕ) (i : ℕ) → Reaches b met i → held met (records_in b) ≡ length met
held-is b [] i start = held_empty (records_in b)
held-is b _ _ (next {met} {i} r z l f) =
    held_more (next_of b i) (records_in b) met f l ∙ ap suc (held-is b met i r) ∙ omega (arith, length-append met (next_of b i ∷ []))

-- a chain reaches no more frames than there are records besides record 0
pub few : FewFrames
few b met i h r = go (records_in b) h (held-is b met i r)
  where
    go : (m : ℕ) → 0 < m → held met m ≡ length met → suc (length met) ≤ m
    go zero h e = elim h [ ]
    go (suc m) h e = omega (arith, held_le m met (no_zero b met i r), e)

-- with no record left, the next number is past the end or met before
none_left : (b met : List ℕ) (i : ℕ) → 0 < records_in b → Reaches b met i → suc (length met) ≡ records_in b → (next_of b i ≡ 0 → ⊥)
    → (records_in b ≤ next_of b i) ⊎ (is_among (next_of b i) met ≡ true)
none_left b met i h r e z = go (leb (records_in b) (next_of b i)) refl (is_among (next_of b i) met) refl
  where
    go : (s : Bool) → leb (records_in b) (next_of b i) ≡ s → (t : Bool) → is_among (next_of b i) met ≡ t → (records_in b ≤ next_of b i) ⊎ (is_among (next_of b i) met ≡ true)
    go true p t q = inl (leb-true (records_in b) (next_of b i) p)
    go false p true q = inr q
    go false p false q =
        let f = few b (met ++ next_of b i ∷ []) (next_of b i) h (next r z (leb-false (records_in b) (next_of b i) p) q) in
        absurd (omega (arith, f, e, length-append met (next_of b i ∷ [])))

means_from : (b : List ℕ) (left : ℕ) (met : List ℕ) (i : ℕ) → 0 < records_in b → Reaches b met i → suc (length met) + left ≡ records_in b → Means b (chain_from b left met i)
unfolding chain_from
means_from b zero met i h r e = go (eqb (next_of b i) 0) refl
  where
    go : (t : Bool) → eqb (next_of b i) 0 ≡ t → Means b (cond t (Some met) None)
    go true p = record { last = i; reached = r; done = eqb-true (next_of b i) 0 p }
    go false p =
        let z = eqb-false (next_of b i) 0 p in
        record { met = met; at = i; reached = r; more = z; bad = none_left b met i h r (omega (arith, e)) z }
means_from b (suc left) met i h r e = go (λ t. means_from b left (met ++ next_of b i ∷ []) (next_of b i) h t (omega (arith, e, length-append met (next_of b i ∷ [])))) (eqb (next_of b i) 0) refl (leb (records_in b) (next_of b i)) refl (is_among (next_of b i) met) refl
  where
    go : (Reaches b (met ++ next_of b i ∷ []) (next_of b i) → Means b (chain_from b left (met ++ next_of b i ∷ []) (next_of b i)))
        → (t : Bool) → eqb (next_of b i) 0 ≡ t → (s : Bool) → leb (records_in b) (next_of b i) ≡ s → (u : Bool) → is_among (next_of b i) met ≡ u
        → Means b (cond t (Some met) (cond (s || u) None (chain_from b left (met ++ next_of b i ∷ []) (next_of b i))))
    go again true p s q u f = record { last = i; reached = r; done = eqb-true (next_of b i) 0 p }
    go again false p true q u f =
        record { met = met; at = i; reached = r; more = eqb-false (next_of b i) 0 p; bad = inl (leb-true (records_in b) (next_of b i) q) }
    go again false p false q true f = record { met = met; at = i; reached = r; more = eqb-false (next_of b i) 0 p; bad = inr f }
    go again false p false q false f = again (next r (eqb-false (next_of b i) 0 p) (leb-false (records_in b) (next_of b i) q) f)

-- row 20 is what it says
pub chain_means : ChainMeans
unfolding chain_of
chain_means b h = means_from b (records_in b - 1) [] 0 h start (omega (arith, h))
