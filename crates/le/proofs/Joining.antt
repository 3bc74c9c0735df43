-- Lists of bytes one behind the other: each by its place, and parts of bytes joined again.
use Prim.Native.Nat.{ℕ, zero, suc, ◌+◌, ◌≤◌, ◌<◌}
use mathlib.Core.Path.{◌≡◌, refl, sym, ap, ◌∙◌}
use mathlib.Core.List.{List, [], ◌∷◌, ◌++◌, append_assoc, append-nil}
use native.Mathlib.Nat.{le_of_suc-le-suc, not-suc-le-zero}
use lib.ListN.{length, get_or, take, drop, length-append}
use lib.Seq.{drop-append-add, take-add, drop-drop}
use Rattle.le.specs.Bytes.{joined, with_bytes}
use Rattle.le.proofs.Places.{with-more}

-- the lists have these lengths
abbrev pub Sized : List (List ℕ) → List ℕ → Type 0
Sized [] [] = Unit {0}
Sized [] (n ∷ ns) = ⊥
Sized (b ∷ bs) [] = ⊥
Sized (b ∷ bs) (n ∷ ns) = (length b ≡ n) × Sized bs ns

abbrev pub total : List ℕ → ℕ
total [] = 0
total (n ∷ ns) = n + total ns

pub length-joined : (bs : List (List ℕ)) (ns : List ℕ) → Sized bs ns → length (joined bs) ≡ total ns
unfolding joined
length-joined [] [] s = refl
length-joined [] (n ∷ ns) s = absurd s
length-joined (b ∷ bs) [] s = absurd s
length-joined (b ∷ bs) (n ∷ ns) s = length-append b (joined bs) ∙ (λ i. s.0 i + length-joined bs ns s.1 i)

-- list i, and what is behind it
pub joined_at : (bs : List (List ℕ)) (ns : List ℕ) (i : ℕ) (q : List ℕ) → Sized bs ns → i < length bs
    → drop (total (take i ns)) (joined bs ++ q) ≡ get_or bs i [] ++ (joined (drop (suc i) bs) ++ q)
unfolding joined
joined_at [] ns i q s h = absurd (not-suc-le-zero h)
joined_at (b ∷ bs) [] i q s h = absurd s
joined_at (b ∷ bs) (n ∷ ns) zero q s h = append_assoc b (joined bs) q
joined_at (b ∷ bs) (n ∷ ns) (suc i) q s h =
    (λ j. drop (sym s.0 j + total (take i ns)) (append_assoc b (joined bs) q j))
    ∙ drop-append-add b (joined bs ++ q) (total (take i ns))
    ∙ joined_at bs ns i q s.1 (le_of_suc-le-suc h)

-- bytes taken apart, from place `at` on
abbrev pub cut : ℕ → List ℕ → List ℕ → List (List ℕ)
cut at [] b = []
cut at (n ∷ ns) b = take n (drop at b) ∷ cut (at + n) ns b

pub joined-cut : (at : ℕ) (ns b : List ℕ) → joined (cut at ns b) ≡ take (total ns) (drop at b)
unfolding joined
joined-cut at [] b = refl
joined-cut at (n ∷ ns) b =
    ap (λ (c : List ℕ). take n (drop at b) ++ c) (joined-cut (at + n) ns b ∙ ap (take (total ns)) (sym (drop-drop n at b)))
    ∙ sym (take-add n (total ns) (drop at b))

-- lists that are stored in turn, from k bytes behind place `at` on
abbrev pub stored : ℕ → ℕ → List (List ℕ) → List ℕ → List ℕ → List ℕ
stored at k [] ns d = d
stored at k (b ∷ bs) [] d = d
stored at k (b ∷ bs) (n ∷ ns) d = stored at (k + n) bs ns (with_bytes d (at + k) b)

pub stored_all : (d : List ℕ) (at : ℕ) (p : List ℕ) (k : ℕ) (bs : List (List ℕ)) (ns : List ℕ) → at ≤ length d → length p ≡ k → Sized bs ns
    → stored at k bs ns (with_bytes d at p) ≡ with_bytes d at (p ++ joined bs)
unfolding joined
stored_all d at p k [] ns h e s = ap (with_bytes d at) (sym (append-nil p))
stored_all d at p k (b ∷ bs) [] h e s = absurd s
stored_all d at p k (b ∷ bs) (n ∷ ns) h e s =
    ap (stored at (k + n) bs ns) (with-more d at p b k h e)
    ∙ stored_all d at (p ++ b) (k + n) bs ns h (length-append p b ∙ (λ i. e i + s.0 i)) s.1
    ∙ ap (with_bytes d at) (append_assoc p b (joined bs))
