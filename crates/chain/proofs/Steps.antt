-- A step of the chain, whatever is left.
use Prim.Native.Nat.{ℕ, zero, suc, ◌+◌, ◌-◌, ◌*◌, ◌/◌, ◌%◌, ◌≤◌, ◌<◌}
use mathlib.Core.Path.{◌≡◌, refl, sym, ap, ◌∙◌}
use mathlib.Core.Bool.{Bool, true, false, ◌&&◌}
use mathlib.Core.List.{List, [], ◌∷◌, ◌++◌}
use native.Mathlib.Omega.{arith}
use native.Mathlib.Numerals.{add-one}
use borrow.Author.Tests.{eqb-true, ltb-true, leb-true, eq-eqb, ne_eqb, le-leb, lt-leb}
use lib.Dec.{eqb, ltb, leb}
use lib.ListN.{length, take, set, replicate, length-append}
use Rattle.std.specs.Prelude.{Some, None}
use lib.Seq.{set_at, append_snoc, length-take-le, take-suc-set}
use Rattle.chain.specs.Chain.{is_whole, records_in, next_of, is_among, chain_from, chain_of, padded, route_of}

-- what a whole length has
pub record Whole (n : ℕ) : Type 0 where
  pub all : n ≡ 1024 * (n / 1024)
  pub some : 0 < n / 1024
  pub most : n / 1024 ≤ 60

pub whole : (n : ℕ) → is_whole n ≡ true → Whole n
unfolding is_whole
whole n e = go (eqb (n % 1024) 0) refl (ltb 0 (n / 1024)) refl (leb (n / 1024) 60) refl e
  where
    go : (a : Bool) → eqb (n % 1024) 0 ≡ a → (b : Bool) → ltb 0 (n / 1024) ≡ b → (c : Bool) → leb (n / 1024) 60 ≡ c → (a && b && c) ≡ true → Whole n
    go true p true q true r e =
        let z = eqb-true (n % 1024) 0 p in
        record { all = omega (arith, z); some = ltb-true 0 (n / 1024) q; most = leb-true (n / 1024) 60 r }
    go true p true q false r e = let z : ◌≡◌ {A = ℕ} 0 1 = cc in absurd (omega arith)
    go true p false q c r e = let z : ◌≡◌ {A = ℕ} 0 1 = cc in absurd (omega arith)
    go false p b q c r e = let z : ◌≡◌ {A = ℕ} 0 1 = cc in absurd (omega arith)

module _ (b met : List ℕ) (i : ℕ) where
  pub step_end : (left : ℕ) → next_of b i ≡ 0 → chain_from b left met i ≡ Some met
  unfolding chain_from
  step_end zero e = rw (eq-eqb (next_of b i) 0 e)
  step_end (suc left) e = rw (eq-eqb (next_of b i) 0 e)

  pub step-none : (next_of b i ≡ 0 → ⊥) → chain_from b 0 met i ≡ None
  unfolding chain_from
  step-none e = rw (ne_eqb (next_of b i) 0 e)

  pub step_past : (left : ℕ) → (next_of b i ≡ 0 → ⊥) → records_in b ≤ next_of b i → chain_from b left met i ≡ None
  unfolding chain_from
  step_past zero e h = step-none e
  step_past (suc left) e h = rw (ne_eqb (next_of b i) 0 e, le-leb (records_in b) (next_of b i) h)

  pub step-met : (left : ℕ) → (next_of b i ≡ 0 → ⊥) → next_of b i < records_in b → is_among (next_of b i) met ≡ true → chain_from b left met i ≡ None
  unfolding chain_from
  step-met zero e h f = step-none e
  step-met (suc left) e h f = rw (ne_eqb (next_of b i) 0 e, lt-leb (records_in b) (next_of b i) h, f)

  pub step-on : (left : ℕ) → (next_of b i ≡ 0 → ⊥) → next_of b i < records_in b → is_among (next_of b i) met ≡ false
      → chain_from b (suc left) met i ≡ chain_from b left (met ++ next_of b i ∷ []) (next_of b i)
  unfolding chain_from
  step-on left e h f = rw (ne_eqb (next_of b i) 0 e, lt-leb (records_in b) (next_of b i) h, f)

-- one record more in its place
pub padded-more : (p : List ℕ) (v : ℕ) → length p < 60 → set (padded p) (length p) v ≡ padded (p ++ v ∷ [])
unfolding padded
padded-more p v h =
    let e : 60 - length p ≡ suc (60 - suc (length p)) = omega arith in
    let f : 60 - suc (length p) ≡ 60 - length (p ++ v ∷ []) = omega (arith, length-append p (v ∷ [])) in
    ap (λ (n : ℕ). set (p ++ replicate n 0) (length p) v) e ∙ set_at p 0 (replicate (60 - suc (length p)) 0) v (length p) refl
    ∙ sym (append_snoc p v (replicate (60 - suc (length p)) 0))
    ∙ ap (λ (n : ℕ). p ++ v ∷ [] ++ replicate n 0) f

-- the same for the first k of 60 places
pub records_more : (r : List ℕ) (k v : ℕ) → length r ≡ 60 → k < 60 → r ≡ padded (take k r) → set r k v ≡ padded (take (k + 1) (set r k v))
records_more r k v l h e =
    let n : length (take k r) ≡ k = length-take-le k r (omega arith) in
    ap (λ (x : List ℕ). set x k v) e ∙ ap (λ (m : ℕ). set (padded (take k r)) m v) (sym n)
    ∙ padded-more (take k r) v (omega arith)
    ∙ ap padded (sym (rw (add-one k) (take-suc-set r k v (omega arith))))

pub route_through : (b r : List ℕ) (k : ℕ) → chain_of b ≡ Some (take k r) → r ≡ padded (take k r) → length r ≡ 60 → k ≤ 60
    → Some (record { frames = k; records = r }) ≡ route_of (chain_of b)
route_through b r k e p l h =
    let n : length (take k r) ≡ k = length-take-le k r (omega arith) in
    (λ i. Some (record { frames = sym n i; records = p i })) ∙ ap route_of (sym e)
