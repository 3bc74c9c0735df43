-- Lists that grow at their end, read by index, and the sizes of their elements.
use Prim.Native.Nat.{ℕ, zero, suc, ◌+◌, ◌*◌, ◌<◌, ◌≤◌, zero-le}
use mathlib.Core.Path.{◌≡◌, refl, sym, ap, ◌∙◌}
use mathlib.Core.Bool.{Bool, true, false}
use mathlib.Core.List.{List, [], ◌∷◌, ◌++◌, map, map-append}
use native.Mathlib.Omega.{arith}
use native.Mathlib.Nat.{le_of_suc-le-suc, le_antisymm, not-suc-le-zero, mul-suc}
use borrow.Author.Tests.{ltb-true, ltb-false}
use lib.Dec.{ltb}
use lib.ListN.{length, get_or, set, take, drop, length-drop, get_or-append}
use lib.Seq.{drop-cons, set_at, append_snoc, get_or_at, ext_get_or, length-take-le}
use lib.IntN.{ℤ, pos, nat_abs}
use Rattle.std.proofs.lemmas.List.{length_push}
use Rattle.word.specs.Size.{size_at, sizes, Bounded}
use Rattle.word.specs.Tabulate.{tabulate}

-- a bound on an element, after one more
pub snoc_le : (xs : List ℤ) (x : ℤ) (k W : ℕ) → size_at xs k ≤ W → nat_abs x ≤ W → size_at (xs ++ x ∷ []) k ≤ W
snoc_le [] x zero W h g = g
snoc_le [] x (suc k) W h g = h
snoc_le (y ∷ ys) x zero W h g = h
snoc_le (y ∷ ys) x (suc k) W h g = snoc_le ys x k W h g

pub length_snoc : (xs : List ℤ) (x : ℤ) → length (xs ++ x ∷ []) ≡ suc (length xs)
length_snoc xs x = omega (arith, length_push xs x)

-- past the end there is nothing
pub beyond : (xs : List ℤ) (k : ℕ) → length xs ≤ k → size_at xs k ≡ 0
beyond [] k h = refl
beyond (x ∷ xs) zero h = absurd (not-suc-le-zero h)
beyond (x ∷ xs) (suc k) h = beyond xs k (le_of_suc-le-suc h)

-- an element that was stored
pub set_le : (xs : List ℤ) (j : ℕ) (v : ℤ) (W : ℕ) → nat_abs v ≤ W → size_at (set xs j v) j ≤ W
set_le [] j v W h = zero-le
set_le (x ∷ xs) zero v W h = h
set_le (x ∷ xs) (suc j) v W h = set_le xs j v W h

-- two lists, one after the other
pub append_le : (xs ys : List ℤ) (i X : ℕ) → (i < length xs → size_at xs i ≤ X) → ((j : ℕ) → size_at ys j ≤ X) → size_at (xs ++ ys) i ≤ X
append_le [] ys i X h k = k i
append_le (x ∷ xs) ys zero X h k = h (omega arith)
append_le (x ∷ xs) ys (suc i) X h k = append_le xs ys i X (λ l. h (omega arith)) k

pub map_le : (f : ℤ → ℤ) (xs : List ℤ) (i X : ℕ) → ((j : ℕ) → nat_abs (f (get_or xs j (pos 0))) ≤ X) → size_at (map f xs) i ≤ X
map_le f [] i X h = zero-le
map_le f (x ∷ xs) zero X h = h 0
map_le f (x ∷ xs) (suc i) X h = map_le f xs i X (λ j. h (suc j))

-- a turn of a loop that fills a list from the front with a list that grows at its end
pub grow : (p d : List ℤ) (i : ℕ) (v : ℤ) → length p ≡ i → i < length d → set (p ++ drop i d) i v ≡ p ++ (v ∷ []) ++ drop (suc i) d
grow p d i v e h =
    ap (λ (r : List ℤ). set (p ++ r) i v) (drop-cons d i (pos 0) h) ∙ set_at p _ _ v i e ∙ sym (append_snoc p v _)

-- what such a turn reads is the other's
pub rest_at : (p d : List ℤ) (i : ℕ) → length p ≡ i → i < length d → get_or (p ++ drop i d) i (pos 0) ≡ get_or d i (pos 0)
rest_at p d i e h =
    ap (λ (r : List ℤ). get_or (p ++ r) i (pos 0)) (drop-cons d i (pos 0) h) ∙ get_or_at p (get_or d i (pos 0)) (drop (suc i) d) (pos 0) i e

-- a part of n elements has n
pub length_part : {A : Type 0} (xs : List A) (at n : ℕ) → at + n ≤ length xs → length (take n (drop at xs)) ≡ n
length_part xs at n h = length-take-le n (drop at xs) (simp length-drop (omega arith))

-- the sum of sizes of elements that are within M
pub sizes_le : (a : List ℤ) (j M : ℕ) → Bounded M a → sizes a j ≤ M * j
unfolding sizes
sizes_le a zero M h = omega arith
sizes_le a (suc j) M h = omega (arith, sizes_le a j M h, h j, mul-suc M j)

-- ---- a list by its elements
pub length-tabulate : (n : ℕ) (f : ℕ → ℤ) → length (tabulate n f) ≡ n
unfolding tabulate
length-tabulate zero f = refl
length-tabulate (suc n) f = length_snoc (tabulate n f) (f n) ∙ ap suc (length-tabulate n f)

pub get_or-tabulate : (n : ℕ) (f : ℕ → ℤ) (i : ℕ) → i < n → get_or (tabulate n f) i (pos 0) ≡ f i
unfolding tabulate
get_or-tabulate zero f i h = absurd (not-suc-le-zero h)
get_or-tabulate (suc n) f i h = go (ltb i n) refl (get_or-tabulate n f i)
  where
    go : (t : Bool) → ltb i n ≡ t → (i < n → get_or (tabulate n f) i (pos 0) ≡ f i) → get_or (tabulate n f ++ f n ∷ []) i (pos 0) ≡ f i
    go true e ih =
        let k = ltb-true i n e in
        get_or-append (tabulate n f) (f n ∷ []) (pos 0) i (rw (length-tabulate n f) k) ∙ ih k
    go false e ih =
        let k : i ≡ n = le_antisymm (le_of_suc-le-suc h) (ltb-false i n e) in
        rw (k) (get_or_at (tabulate n f) (f n) [] (pos 0) n (length-tabulate n f))

-- a loop that fills a list from the front makes the table
pub tabulate-more : (d : List ℤ) (f : ℕ → ℤ) (i : ℕ) → i < length d → set (tabulate i f ++ drop i d) i (f i) ≡ tabulate (suc i) f ++ drop (suc i) d
unfolding tabulate
tabulate-more d f i h = grow (tabulate i f) d i (f i) (length-tabulate i f) h

-- equal elements make equal tables
pub tabulate_cong : (n : ℕ) (f g : ℕ → ℤ) → ((i : ℕ) → i < n → f i ≡ g i) → tabulate n f ≡ tabulate n g
unfolding tabulate
tabulate_cong zero f g h = refl
tabulate_cong (suc n) f g h =
    let a = tabulate_cong n f g (λ i k. h i (omega arith)) in
    let b = h n (omega arith) in
    cc

-- a list is the table of its elements
pub tabulate-get_or : (xs : List ℤ) → tabulate (length xs) (λ i. get_or xs i (pos 0)) ≡ xs
tabulate-get_or xs =
    ext_get_or (pos 0) (tabulate (length xs) (λ i. get_or xs i (pos 0))) xs (length-tabulate (length xs) (λ i. get_or xs i (pos 0)))
    (λ i h. get_or-tabulate (length xs) (λ i. get_or xs i (pos 0)) i (rw (sym (length-tabulate (length xs) (λ i. get_or xs i (pos 0)))) h))

-- a table, each number changed by g
pub map-tabulate : (g : ℤ → ℤ) (f : ℕ → ℤ) (n : ℕ) → map g (tabulate n f) ≡ tabulate n (λ i. g (f i))
unfolding tabulate
map-tabulate g f zero = refl
map-tabulate g f (suc n) =
    map-append g (tabulate n f) (f n ∷ []) ∙ ap (λ (xs : List ℤ). xs ++ g (f n) ∷ []) (map-tabulate g f n)
