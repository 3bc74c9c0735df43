-- Bytes put behind a sentence.
use Prim.Native.Nat.{ℕ, zero, suc, ◌+◌, ◌-◌, ◌<◌, ◌≤◌}
use mathlib.Core.Path.{◌≡◌, refl, sym, ap, ◌∙◌}
use mathlib.Core.List.{List, [], ◌∷◌, ◌++◌, append_assoc}
use native.Mathlib.Numerals.{add-one}
use native.Mathlib.Omega.{arith}
use native.Mathlib.Nat.{sub-zero, zero-sub}
use lib.ListN.{length, take, drop, set, replicate, length-append}
use lib.Seq.{set_split, append_snoc, take_at, drop-append-add, take-append_seam, drop-drop, length-take-le}
use Rattle.sentence.specs.Sentence.{filled, with}
use Rattle.sentence.specs.declared.Sentence.{Sentence}

pub with_len : (s : Sentence) (bs : List ℕ) → (with s bs).len ≡ s.len + length bs
unfolding with
with_len s bs = refl

pub with-one : (s : Sentence) (b : ℕ) → s.len < length s.letters → ◌≡◌ {A = Sentence} (record { letters = set s.letters s.len b; len = s.len + 1 }) (with s (b ∷ []))
unfolding with
with-one s b h =
    let a = take s.len s.letters in
    λ i. record {
      letters = (set_split s.letters s.len b h ∙ ap (λ (n : ℕ). a ++ b ∷ drop n s.letters) (sym (add-one s.len)) ∙ sym (append_snoc a b (drop (s.len + 1) s.letters))) i;
      len = s.len + 1;
    }

pub with-with : (s : Sentence) (xs ys : List ℕ) → s.len ≤ length s.letters → with (with s xs) ys ≡ with s (xs ++ ys)
unfolding with
with-with s xs ys h =
    let a = take s.len s.letters in
    let d = drop (s.len + length xs) s.letters in
    let l : length (a ++ xs) ≡ s.len + length xs = length-append a xs ∙ ap (λ (n : ℕ). n + length xs) (length-take-le s.len s.letters h) in
    let n : s.len + length xs + length ys ≡ s.len + length (xs ++ ys) = omega (arith, length-append xs ys) in
    let front = take_at (a ++ xs) d (s.len + length xs) l ∙ refl in
    let back = ap (λ (m : ℕ). drop (m + length ys) ((a ++ xs) ++ d)) (sym l) ∙ drop-append-add (a ++ xs) d (length ys) ∙ drop-drop (length ys) (s.len + length xs) s.letters ∙ ap (λ (m : ℕ). drop m s.letters) n in
    λ i. record {
      letters = ((λ j. front j ++ ys ++ back j) ∙ ap (λ (zs : List ℕ). zs ++ drop (s.len + length (xs ++ ys)) s.letters) (append_assoc a xs ys)) i;
      len = n i;
    }

pub drop-zeros : (n k : ℕ) → drop {A = ℕ} n (replicate k 0) ≡ replicate (k - n) 0
drop-zeros zero k = rw sub-zero refl
drop-zeros (suc n) zero = rw zero-sub refl
drop-zeros (suc n) (suc k) = let e : k - n ≡ suc k - suc n = omega arith in drop-zeros n k ∙ ap (λ (m : ℕ). replicate m 0) e

pub filled-with : (xs ys : List ℕ) → with (filled xs) ys ≡ filled (xs ++ ys)
unfolding with filled
filled-with xs ys =
    let n = length-append xs ys in
    let k : 64 - length xs - length ys ≡ 64 - length (xs ++ ys) = omega (arith, n) in
    let z : List ℕ = replicate (64 - length xs) 0 in
    let back = drop-append-add xs z (length ys) ∙ drop-zeros (length ys) (64 - length xs) ∙ ap (λ (m : ℕ). replicate m 0) k in
    λ i. record { letters = take-append_seam xs z i ++ ys ++ back i; len = sym n i }
