-- Bytes at a place of a list: read by index, and stored.
use Prim.Native.Nat.{ℕ, suc, ◌+◌, ◌*◌, ◌≤◌}
use mathlib.Core.Path.{◌≡◌, refl, sym, ap, ◌∙◌}
use mathlib.Core.Bool.{Bool, true, false}
use borrow.Author.Tests.{eqb-true, eq-eqb, ne_eqb}
use lib.Dec.{eqb}
use mathlib.Core.List.{List, [], ◌++◌, append_assoc, append-nil}
use native.Mathlib.Omega.{arith}
use native.Mathlib.Numerals.{add-one}
use lib.ListN.{length, get_or, take, drop, length-append, take-append-drop, drop_of_length-le}
use lib.Seq.{drop-cons, drop-drop, take_at, take-append-add, drop-append-add, length-take-le}
use Rattle.le.specs.Bytes.{number_of, unsigned_at, with_bytes}

-- either of two numbers is the other
pub eqb_swap : (x y : ℕ) → eqb x y ≡ eqb y x
eqb_swap x y = go (eqb x y) refl
  where
    go : (t : Bool) → eqb x y ≡ t → t ≡ eqb y x
    go true e = sym (eq-eqb y x (sym (eqb-true x y e)))
    go false e = sym (ne_eqb y x (λ f. let z = eq-eqb x y (sym f) in let k : ◌≡◌ {A = ℕ} 0 1 = cc in omega arith))

-- one, two and four bytes as a number
module _ (b : List ℕ) (at : ℕ) where
  pub one_byte : at + 1 ≤ length b → unsigned_at 1 b at ≡ get_or b at 0
  unfolding unsigned_at number_of
  one_byte h = rw (drop-cons b at 0 (omega arith)) (omega arith)

  pub two_bytes : at + 2 ≤ length b → unsigned_at 2 b at ≡ get_or b at 0 + 256 * get_or b (at + 1) 0
  unfolding unsigned_at number_of
  two_bytes h = rw (add-one at, drop-cons b at 0 (omega arith), drop-cons b (suc at) 0 (omega arith)) (omega arith)

pub four_bytes : (b : List ℕ) (at : ℕ) → at + 4 ≤ length b
    → unsigned_at 4 b at ≡ get_or b at 0 + 256 * get_or b (at + 1) 0 + 65536 * get_or b (at + 2) 0 + 16777216 * get_or b (at + 3) 0
unfolding unsigned_at number_of
four_bytes b at h =
    let two : at + 2 ≡ suc (suc at) = omega arith in
    let three : at + 3 ≡ suc (suc (suc at)) = omega arith in
    rw (three, two, add-one at, drop-cons b at 0 (omega arith), drop-cons b (suc at) 0 (omega arith), drop-cons b (suc (suc at)) 0 (omega arith), drop-cons b (suc (suc (suc at))) 0 (omega arith))
    (omega arith)

front : (d : List ℕ) (at : ℕ) (p : List ℕ) → at ≤ length d → length (take at d ++ p) ≡ at + length p
front d at p h = length-append (take at d) p ∙ ap (λ (k : ℕ). k + length p) (length-take-le at d h)

-- bytes stored behind k bytes that were stored
pub with-more : (d : List ℕ) (at : ℕ) (p q : List ℕ) (k : ℕ) → at ≤ length d → length p ≡ k → with_bytes (with_bytes d at p) (at + k) q ≡ with_bytes d at (p ++ q)
unfolding with_bytes
with-more d at p q k h e =
    let f : length (take at d ++ p) ≡ at + k = front d at p h ∙ ap (λ (n : ℕ). at + n) e in
    let t : take (at + k) (take at d ++ p ++ drop (at + length p) d) ≡ take at d ++ p = take_at (take at d ++ p) (drop (at + length p) d) (at + k) f in
    let l : at + length p + length q ≡ at + length (p ++ q) = omega (arith, length-append p q) in
    let r : drop (at + k + length q) (take at d ++ p ++ drop (at + length p) d) ≡ drop (at + length (p ++ q)) d =
    ap (λ (n : ℕ). drop (n + length q) (take at d ++ p ++ drop (at + length p) d)) (sym f)
    ∙ drop-append-add (take at d ++ p) (drop (at + length p) d) (length q)
    ∙ drop-drop (length q) (at + length p) d ∙ ap (λ (n : ℕ). drop n d) l in
    rw (t, r, append_assoc (take at d) p q)

-- nothing stored
pub with_none : (d : List ℕ) (at : ℕ) → with_bytes d at [] ≡ d
unfolding with_bytes
with_none d at =
    let e : at + 0 ≡ at = omega arith in
    rw (append-nil (take at d), e) (take-append-drop at d)

-- bytes stored over all of a list
pub with-whole : (d b : List ℕ) → length d ≤ length b → with_bytes d 0 b ≡ b
unfolding with_bytes
with-whole d b h = rw (drop_of_length-le d {i = 0 + length b} (omega arith)) (append-nil b)

-- bytes stored behind the first k bytes
pub with-front : (p d : List ℕ) (at : ℕ) (b : List ℕ) (k : ℕ) → length p ≡ k → with_bytes (p ++ d) (k + at) b ≡ p ++ with_bytes d at b
unfolding with_bytes
with-front p d at b k e =
    let t : take (k + at) (p ++ d) ≡ p ++ take at d = ap (λ (n : ℕ). take (n + at) (p ++ d)) (sym e) ∙ take-append-add p d at in
    let n : k + at + length b ≡ length p + (at + length b) = omega arith in
    let r : drop (k + at + length b) (p ++ d) ≡ drop (at + length b) d = ap (λ (n : ℕ). drop n (p ++ d)) n ∙ drop-append-add p d (at + length b) in
    rw (t, r, append_assoc p (take at d) b, append_assoc p (take at d ++ b) (drop (at + length b) d))
