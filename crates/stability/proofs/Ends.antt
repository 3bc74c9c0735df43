-- A list that is changed in place from both ends, a pair of places at each turn.
use Prim.Native.Nat.{ℕ, zero, suc, ◌+◌, ◌-◌, ◌/◌, ◌<◌, ◌≤◌}
use mathlib.Core.Path.{◌≡◌, refl, sym, ap, ◌∙◌}
use mathlib.Core.Bool.{Bool, true, false, cond, ◌&&◌, ◌||◌, or-true}
use mathlib.Core.List.{List}
use native.Mathlib.Omega.{arith}
use native.Mathlib.Nat.{not-suc-le-zero, le_of_suc-le-suc, le_antisymm}
use borrow.Author.Tests.{lt-ltb, le-ltb, le-leb, lt-leb, ltb-true, ltb-false, leb-true, leb-false, eqb-true, eqb-false}
use lib.Dec.{ltb, leb, eqb}
use lib.IntN.{ℤ, pos}
use lib.ListN.{length, get_or, set, take, length-set}
use lib.Seq.{get_or-set_same, get_or-set_other, get_or-take, length-take-le, ext_get_or}
use Rattle.word.specs.Tabulate.{tabulate}
use Rattle.word.proofs.Lists.{length-tabulate, get_or-tabulate}
use Rattle.word.proofs.Rows.{both}
use Rattle.stability.specs.Stability.{fits32, all_fit}
use Rattle.stability.proofs.Steps.{all_fit-more}

-- place i of k is changed after n turns
abbrev changed : ℕ → ℕ → ℕ → Bool
changed k n i = ltb i n || leb (k - n) i

-- a is a₀ after n turns, in which place i becomes g i
abbrev pub Turned : (ℕ → ℤ) → List ℤ → List ℤ → ℕ → ℕ → Type 0
Turned g a₀ a k n = (i : ℕ) → i < k → get_or a i (pos 0) ≡ cond (changed k n i) (g i) (get_or a₀ i (pos 0))

-- the next turn changes no other place
next-left : (i n : ℕ) → (i ≡ n → ⊥) → ltb i (n + 1) ≡ ltb i n
next-left i n v = go (ltb i n) refl
  where
    go : (b : Bool) → ltb i n ≡ b → ltb i (n + 1) ≡ b
    go true e = lt-ltb i (n + 1) (omega (arith, ltb-true i n e))
    go false e = le-ltb i (n + 1) (omega (arith, ltb-false i n e))

next_right : (k i n : ℕ) → (i ≡ k - 1 - n → ⊥) → leb (k - (n + 1)) i ≡ leb (k - n) i
next_right k i n v = go (leb (k - n) i) refl
  where
    go : (b : Bool) → leb (k - n) i ≡ b → leb (k - (n + 1)) i ≡ b
    go true e = le-leb (k - (n + 1)) i (omega (arith, leb-true (k - n) i e))
    go false e = lt-leb (k - (n + 1)) i (omega (arith, leb-false (k - n) i e))

module _ (g : ℕ → ℤ) (a₀ : List ℤ) (k : ℕ) where
  pub turned_none : Turned g a₀ a₀ k 0
  turned_none i h = rw (le-ltb i 0 (omega arith), lt-leb (k - 0) i (omega arith)) refl

  -- a turn reads what was there
  pub turned_left : (a : List ℤ) (n : ℕ) → n + n < k → Turned g a₀ a k n → get_or a n (pos 0) ≡ get_or a₀ n (pos 0)
  turned_left a n h t = t n (omega arith) ∙ rw (le-ltb n n (omega arith), lt-leb (k - n) n (omega arith)) refl

  pub turned_right : (a : List ℤ) (n : ℕ) → n + n < k → Turned g a₀ a k n → get_or a (k - 1 - n) (pos 0) ≡ get_or a₀ (k - 1 - n) (pos 0)
  turned_right a n h t = t (k - 1 - n) (omega arith) ∙ rw (le-ltb (k - 1 - n) n (omega arith), lt-leb (k - n) (k - 1 - n) (omega arith)) refl

  pub turned_more : (a : List ℤ) (n : ℕ) → n + n < k → k ≤ length a → Turned g a₀ a k n → Turned g a₀ (set (set a n (g n)) (k - 1 - n) (g (k - 1 - n))) k (n + 1)
  turned_more a n h l t i p = go (eqb i (k - 1 - n)) (eqb i n) refl refl
    where
      go : (x y : Bool) → eqb i (k - 1 - n) ≡ x → eqb i n ≡ y → get_or (set (set a n (g n)) (k - 1 - n) (g (k - 1 - n))) i (pos 0) ≡ cond (changed k (n + 1) i) (g i) (get_or a₀ i (pos 0))
      go true y e f =
          let m : k - 1 - n < length (set a n (g n)) = rw (length-set a n (g n)) (omega arith) in
          rw (eqb-true i (k - 1 - n) e, get_or-set_same (set a n (g n)) (k - 1 - n) (g (k - 1 - n)) (pos 0) m, le-leb (k - (n + 1)) (k - 1 - n) (omega arith), or-true (ltb (k - 1 - n) (n + 1))) refl
      go false true e f =
          rw (get_or-set_other (set a n (g n)) (k - 1 - n) i (g (k - 1 - n)) (pos 0) (eqb-false i (k - 1 - n) e), eqb-true i n f, get_or-set_same a n (g n) (pos 0) (omega arith), lt-ltb n (n + 1) (omega arith)) refl
      go false false e f =
          let w = eqb-false i (k - 1 - n) e in
          let v = eqb-false i n f in
          rw (get_or-set_other (set a n (g n)) (k - 1 - n) i (g (k - 1 - n)) (pos 0) w, get_or-set_other a n i (g n) (pos 0) v, t i p, next-left i n v, next_right k i n w) refl

  pub turned_all : (a : List ℤ) → k ≤ length a → Turned g a₀ a k ((k + 1) / 2) → take k a ≡ tabulate k g
  turned_all a l t =
      let e = length-take-le k a l in
      ext_get_or (pos 0) (take k a) (tabulate k g) (e ∙ sym (length-tabulate k g)) (λ i h. at i (rw e at h))
    where
      at : (i : ℕ) → i < k → get_or (take k a) i (pos 0) ≡ get_or (tabulate k g) i (pos 0)
      at i h = get_or-take k a i (pos 0) h ∙ t i h ∙ go (ltb i ((k + 1) / 2)) refl ∙ sym (get_or-tabulate k g i h)
        where
          go : (b : Bool) → ltb i ((k + 1) / 2) ≡ b → cond (changed k ((k + 1) / 2) i) (g i) (get_or a₀ i (pos 0)) ≡ g i
          go true e = rw e refl
          go false e = rw (e, le-leb (k - (k + 1) / 2) i (omega (arith, ltb-false i ((k + 1) / 2) e))) refl

-- ---- a test of all numbers of a table, made in the same order
-- f holds at 0, 1, .., n - 1
unfoldable pub every : ℕ → (ℕ → Bool) → Bool
every zero f = true
every (suc n) f = every n f && f n

every-each : (n : ℕ) (f : ℕ → Bool) → every n f ≡ true → (i : ℕ) → i < n → f i ≡ true
unfolding every
every-each zero f t i h = absurd (not-suc-le-zero h)
every-each (suc n) f t i h = go (ltb i n) refl (every-each n f (both (every n f) (f n) t).0 i)
  where
    go : (b : Bool) → ltb i n ≡ b → (i < n → f i ≡ true) → f i ≡ true
    go true l ih = ih (ltb-true i n l)
    go false l ih =
        let q : i ≡ n = le_antisymm (le_of_suc-le-suc h) (ltb-false i n l) in
        rw q (both (every n f) (f n) t).1

each-every : (n : ℕ) (f : ℕ → Bool) → ((i : ℕ) → i < n → f i ≡ true) → every n f ≡ true
unfolding every
each-every zero f h = refl
each-every (suc n) f h = rw (each-every n f (λ i l. h i (omega arith)), h n (omega arith)) refl

all_every : (e : ℕ → ℤ) (k : ℕ) → all_fit (tabulate k e) ≡ every k (λ i. fits32 (e i))
unfolding tabulate all_fit every
all_every e zero = refl
all_every e (suc k) = all_fit-more e k ∙ ap (λ (b : Bool). b && fits32 (e k)) (all_every e k)

same : (a b : Bool) → (a ≡ true → b ≡ true) → (b ≡ true → a ≡ true) → a ≡ b
same true b f g = sym (f refl)
same false true f g = g refl
same false false f g = refl

-- the numbers of turn j fit
abbrev pub pair : (ℕ → ℤ) → ℕ → ℕ → Bool
pair e k j = fits32 (e j) && fits32 (e (k - 1 - j))

pub pairs_all : (e : ℕ → ℤ) (k : ℕ) → every ((k + 1) / 2) (pair e k) ≡ all_fit (tabulate k e)
pairs_all e k =
    same (every ((k + 1) / 2) (pair e k)) (every k (λ i. fits32 (e i)))
    (λ t. each-every k (λ i. fits32 (e i)) (λ i h. go t i h (ltb i ((k + 1) / 2)) refl))
    (λ t. each-every ((k + 1) / 2) (pair e k) (λ j h. rw (every-each k (λ i. fits32 (e i)) t j (omega arith), every-each k (λ i. fits32 (e i)) t (k - 1 - j) (omega arith)) refl))
    ∙ sym (all_every e k)
  where
    go : every ((k + 1) / 2) (pair e k) ≡ true → (i : ℕ) → i < k → (b : Bool) → ltb i ((k + 1) / 2) ≡ b → fits32 (e i) ≡ true
    go t i h true l = (both (fits32 (e i)) (fits32 (e (k - 1 - i))) (every-each ((k + 1) / 2) (pair e k) t i (ltb-true i ((k + 1) / 2) l))).0
    go t i h false l =
        let m = ltb-false i ((k + 1) / 2) l in
        let j : k - 1 - (k - 1 - i) ≡ i = omega arith in
        let w = (both (fits32 (e (k - 1 - i))) (fits32 (e (k - 1 - (k - 1 - i)))) (every-each ((k + 1) / 2) (pair e k) t (k - 1 - i) (omega arith))).1 in
        rw j at w
