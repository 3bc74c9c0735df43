-- Words as bytes, over the width: what is written is read, and what is read is written.
use Prim.Native.Nat.{ℕ, zero, suc, ◌+◌, ◌*◌, ◌≤◌, ◌<◌}
use mathlib.Core.Path.{◌≡◌, refl, sym, ap, ◌∙◌}
use mathlib.Core.Bool.{Bool, true, false}
use mathlib.Core.List.{List, [], ◌∷◌, ◌++◌, append_assoc, append-nil}
use native.Mathlib.Omega.{arith}
use native.Mathlib.Nat.{mul-le-mul_left}
use borrow.Author.Tests.{ltb-true, ltb-false}
use lib.Dec.{ltb}
use lib.IntN.{ℤ, pos}
use lib.ListN.{length, get_or, take, drop, length-append}
use lib.Seq.{take_at, drop_at, take-add, drop-drop, get_or-drop, length-take-le, take_all}
use mir.Syntax.{Width}
use mir.Val.{SFits}
use native.Mathlib.Numerals.{add-one}
use Rattle.std.specs.List.{flat_map}
use Rattle.std.proofs.lemmas.List.FromFn.{fill_by_all}
use Rattle.std.proofs.lemmas.List.{take_more}
use Rattle.std.proofs.lemmas.List.Concat.{flat_map-append}
use Rattle.word.specs.Int.{wrap}
use Rattle.word.specs.Tabulate.{tabulate}
use Rattle.word.proofs.Fits.{AllFit}
use Rattle.word.proofs.Lists.{length_part, get_or-tabulate, length-tabulate, tabulate_cong, tabulate-get_or}
use Rattle.le.specs.Bytes.{Bytes, bytes_of, bytes_in, number_of, unsigned_at, signed_at, words_by, words_at, packed, packed_by, with_bytes}
use Rattle.le.proofs.Numbers.{length-bytes_of, wrap_of_bytes, bytes_of-wrap}
use Rattle.le.proofs.Places.{with-more}

-- parts of bytes are bytes
pub drop-bytes : (at : ℕ) (b : List ℕ) → Bytes b → Bytes (drop at b)
drop-bytes at b h i = rw (get_or-drop at b i 0) (h (at + i))

pub take-bytes : (n : ℕ) (b : List ℕ) → Bytes b → Bytes (take n b)
take-bytes zero b h i = omega arith
take-bytes (suc n) [] h i = omega arith
take-bytes (suc n) (x ∷ xs) h zero = h 0
take-bytes (suc n) (x ∷ xs) h (suc i) = take-bytes n xs (λ j. h (suc j)) i

-- a word that is written at a place is read there
pub signed_back : (w : Width) (z : ℤ) (b : List ℕ) (at : ℕ) → SFits w z → take (bytes_in w) (drop at b) ≡ bytes_of (bytes_in w) z → signed_at w b at ≡ z
unfolding signed_at unsigned_at
signed_back w z b at f e = ap (λ (c : List ℕ). wrap w (pos (number_of c))) e ∙ wrap_of_bytes w z f

-- and one that is read there has the bytes there
pub signed-again : (w : Width) (b : List ℕ) (at : ℕ) → Bytes b → at + bytes_in w ≤ length b → bytes_of (bytes_in w) (signed_at w b at) ≡ take (bytes_in w) (drop at b)
unfolding signed_at unsigned_at
signed-again w b at t h =
    bytes_of-wrap w (take (bytes_in w) (drop at b)) (take-bytes (bytes_in w) (drop at b) (drop-bytes at b t)) (length_part b at (bytes_in w) h)

pub length-packed : (w : Width) (xs : List ℤ) (n : ℕ) → length (packed w xs n) ≡ bytes_in w * n
unfolding packed
length-packed w xs zero = omega arith
length-packed w xs (suc n) =
    let e : bytes_in w * suc n ≡ bytes_in w * n + bytes_in w = omega arith in
    length-append (packed w xs n) (bytes_of (bytes_in w) (get_or xs n (pos 0)))
    ∙ (λ i. length-packed w xs n i + length-bytes_of (bytes_in w) (get_or xs n (pos 0)) i) ∙ sym e

-- the bytes of number i
part_of_packed : (w : Width) (xs : List ℤ) (n i : ℕ) (q : List ℕ) → i < n → take (bytes_in w) (drop (bytes_in w * i) (packed w xs n ++ q)) ≡ bytes_of (bytes_in w) (get_or xs i (pos 0))
unfolding packed
part_of_packed w xs zero i q h = elim h [ ]
part_of_packed w xs (suc n) i q h = go (part_of_packed w xs n i (bytes_of (bytes_in w) (get_or xs n (pos 0)) ++ q)) (ltb i n) refl
  where
    go : (i < n → take (bytes_in w) (drop (bytes_in w * i) (packed w xs n ++ (bytes_of (bytes_in w) (get_or xs n (pos 0)) ++ q))) ≡ bytes_of (bytes_in w) (get_or xs i (pos 0)))
        → (t : Bool) → ltb i n ≡ t → take (bytes_in w) (drop (bytes_in w * i) ((packed w xs n ++ bytes_of (bytes_in w) (get_or xs n (pos 0))) ++ q)) ≡ bytes_of (bytes_in w) (get_or xs i (pos 0))
    go again true e = rw (append_assoc (packed w xs n) (bytes_of (bytes_in w) (get_or xs n (pos 0))) q) (again (ltb-true i n e))
    go again false e =
        let l = ltb-false i n e in
        let j : i ≡ n = omega arith in
        rw (append_assoc (packed w xs n) (bytes_of (bytes_in w) (get_or xs n (pos 0))) q, j, drop_at (packed w xs n) (bytes_of (bytes_in w) (get_or xs n (pos 0)) ++ q) (bytes_in w * n) (length-packed w xs n))
        (take_at (bytes_of (bytes_in w) (get_or xs n (pos 0))) q (bytes_in w) (length-bytes_of (bytes_in w) (get_or xs n (pos 0))))

-- words that are written at a place are read there
pub words_back : (w : Width) (xs : List ℤ) (b : List ℕ) (at n : ℕ) (q : List ℕ) → length xs ≡ n → AllFit w xs → drop at b ≡ packed w xs n ++ q → words_at w b at n ≡ xs
words_back w xs b at n q l f e =
    tabulate_cong n (λ i. signed_at w b (at + bytes_in w * i)) (λ i. get_or xs i (pos 0)) (λ i h. signed_back w (get_or xs i (pos 0)) b (at + bytes_in w * i) (f i) (part i h))
    ∙ ap (λ (m : ℕ). tabulate m (λ i. get_or xs i (pos 0))) (sym l) ∙ tabulate-get_or xs
  where
    part : (i : ℕ) → i < n → take (bytes_in w) (drop (at + bytes_in w * i) b) ≡ bytes_of (bytes_in w) (get_or xs i (pos 0))
    part i h =
        ap (take (bytes_in w)) (sym (drop-drop (bytes_in w * i) at b) ∙ ap (drop (bytes_in w * i)) e) ∙ part_of_packed w xs n i q h

-- numbers whose bytes are those from a place on
packed_of_parts : (w : Width) (xs : List ℤ) (b : List ℕ) (at n : ℕ) → ((i : ℕ) → i < n → bytes_of (bytes_in w) (get_or xs i (pos 0)) ≡ take (bytes_in w) (drop (at + bytes_in w * i) b)) → packed w xs n ≡ take (bytes_in w * n) (drop at b)
unfolding packed
packed_of_parts w xs b at zero h =
    let e : bytes_in w * 0 ≡ 0 = omega arith in
    ap (λ (k : ℕ). take k (drop at b)) (sym e)
packed_of_parts w xs b at (suc n) h =
    let e : bytes_in w * suc n ≡ bytes_in w * n + bytes_in w = omega arith in
    (λ i. packed_of_parts w xs b at n (λ j l. h j (omega arith)) i ++ h n (omega arith) i)
    ∙ ap (λ (c : List ℕ). take (bytes_in w * n) (drop at b) ++ take (bytes_in w) c) (sym (drop-drop (bytes_in w * n) at b))
    ∙ sym (take-add (bytes_in w * n) (bytes_in w) (drop at b))
    ∙ ap (λ (k : ℕ). take k (drop at b)) (sym e)

-- and words that are read there have the bytes there
pub words-again : (w : Width) (b : List ℕ) (at n : ℕ) → Bytes b → at + bytes_in w * n ≤ length b → packed w (words_at w b at n) n ≡ take (bytes_in w * n) (drop at b)
words-again w b at n t h =
    packed_of_parts w (words_at w b at n) b at n
    (λ i l. ap (bytes_of (bytes_in w)) (get_or-tabulate n (λ j. signed_at w b (at + bytes_in w * j)) i l) ∙ signed-again w b (at + bytes_in w * i) t (room i l))
  where
    room : (i : ℕ) → i < n → at + bytes_in w * i + bytes_in w ≤ length b
    room i l =
        let m : bytes_in w * suc i ≤ bytes_in w * n = mul-le-mul_left (bytes_in w) l in
        let e : bytes_in w * suc i ≡ bytes_in w * i + bytes_in w = omega arith in
        omega arith

-- words one behind the other: what is stored so far, and one word more
module _ {A : Type 0} (f : A → List ℕ) (k : ℕ) (sized : (x : A) → length (f x) ≡ k) where
  pub length-words : (xs : List A) → length (flat_map f xs) ≡ k * length xs
  length-words [] = omega arith
  length-words (x ∷ xs) =
      let e : k * length (x ∷ xs) ≡ k + k * length xs = omega arith in
      length-append (f x) (flat_map f xs) ∙ (λ i. sized x i + length-words xs i) ∙ sym e

  pub words_turn : (d : List ℕ) (at : ℕ) (xs : List A) (i : ℕ) (z : A) → at ≤ length d → i < length xs
      → with_bytes (with_bytes d at (flat_map f (take i xs))) (at + k * i) (f (get_or xs i z)) ≡ with_bytes d at (flat_map f (take (i + 1) xs))
  words_turn d at xs i z h l =
      with-more d at (flat_map f (take i xs)) (f (get_or xs i z)) (k * i) h (length-words (take i xs) ∙ ap (λ n. k * n) (length-take-le i xs (omega arith)))
      ∙ ap (with_bytes d at) (ap (λ b. flat_map f (take i xs) ++ b) (sym (append-nil (f (get_or xs i z)))) ∙ sym (flat_map-append f (take i xs) (get_or xs i z ∷ [])) ∙ ap (flat_map f) (sym (take_more xs i z l)))

-- there is room for a word more
pub word_room : (k i n at m : ℕ) → i < n → at + k * n ≤ m → at + k * i + k ≤ m
word_room k i n at m l h =
    let p : k * suc i ≤ k * n = mul-le-mul_left k l in
    let e : k * suc i ≡ k * i + k = omega arith in
    omega arith

-- such words of a width, all of them
packed_front : (w : Width) (xs : List ℤ) (n : ℕ) → n ≤ length xs → packed_by (bytes_of (bytes_in w)) (take n xs) ≡ packed w xs n
unfolding packed
packed_front w xs zero h = refl
packed_front w xs (suc n) h =
    let f : ℤ → List ℕ = bytes_of (bytes_in w) in
    let x : ℤ = get_or xs n (pos 0) in
    ap (λ (m : ℕ). flat_map f (take m xs)) (sym (add-one n)) ∙ ap (flat_map f) (take_more xs n (pos 0) (omega arith)) ∙ flat_map-append f (take n xs) (x ∷ [])
    ∙ (λ i. packed_front w xs n (omega arith) i ++ append-nil (f x) i)

pub packed_all : (w : Width) (xs : List ℤ) (n : ℕ) → length xs ≡ n → packed_by (bytes_of (bytes_in w)) xs ≡ packed w xs n
packed_all w xs n e =
    ap (packed_by (bytes_of (bytes_in w))) (sym (take_all n xs (omega (arith, e)))) ∙ packed_front w xs n (omega (arith, e))

-- such words read one behind the other
pub words_are : (w : Width) (b : List ℕ) (at n : ℕ) → words_by (signed_at w) (bytes_in w) b at n ≡ words_at w b at n
words_are w b at n =
    let f : ℕ → ℤ = λ i. signed_at w b (at + bytes_in w * i) in
    sym (fill_by_all f (tabulate n f) n (pos 0) (length-tabulate n f) (λ i h. get_or-tabulate n f i h))
