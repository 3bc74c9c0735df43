-- Loops from the last of the records to the first, and what is behind a place.
use Prim.Native.Nat.{ℕ, zero, suc, ◌+◌, ◌-◌, ◌*◌, ◌≤◌, ◌<◌}
use mathlib.Core.Bool.{Bool, ◌&&◌}
use mathlib.Core.Path.{◌≡◌, refl, ap, ◌∙◌}
use mathlib.Core.List.{List, [], ◌∷◌, ◌++◌, map, reverse}
use native.Mathlib.Omega.{arith}
use denote.Ref.{Bor}
use lib.ListN.{length, get_or, take, drop, length-drop}
use lib.Dec.{eqb}
use lib.Seq.{take-suc, get_or-drop}
use Rattle.std.proofs.Math.Bool.{and-true}
use Rattle.std.proofs.lemmas.List.{reverse-append, map-append, get_or_default}
use Rattle.std.proofs.lemmas.List.Folds.{list_all-append}
use Rattle.std.specs.List.{list_all}
use Rattle.recording.specs.Frames.{zeros, is_frame, are_frames, Inside}

-- one record more
pub back_more : (ys : List (Bor ℕ)) (x : Bor ℕ) → reverse (map (λ r. r.now) (ys ++ x ∷ [])) ≡ x.now ∷ reverse (map (λ r. r.now) ys)
back_more ys x = ap reverse (map-append (λ r. r.now) ys (x ∷ [])) ∙ reverse-append (map (λ r. r.now) ys) (x.now ∷ [])

-- a record that stands at a place of them lies within the bytes
pub record_at : (b r : List ℕ) → Inside b r → (x k : ℕ) → k < length r → x ≡ get_or r k x → 1024 * x + 1024 ≤ length b
record_at b r f x k h e =
    let w : x ≡ get_or r k 0 = e ∙ get_or_default r k x 0 h in
    omega (arith, w, f k)

-- one byte more
pub all_and : (ys : List ℕ) (x : ℕ) → list_all (λ y. eqb y 0) (ys ++ x ∷ []) ≡ (list_all (λ y. eqb y 0) ys && eqb x 0)
all_and ys x =
    let p : ℕ → Bool = λ y. eqb y 0 in
    list_all-append p ys (x ∷ []) ∙ (λ i. list_all p ys && and-true (p x) i)

-- n bytes from a place on are zeros, each by itself
pub zeros_each : (b : List ℕ) (at n : ℕ) → at + n ≤ length b → list_all (λ x. eqb x 0) (take n (drop at b)) ≡ zeros b at n
unfolding zeros
zeros_each b at zero h = refl
zeros_each b at (suc n) h =
    let p : ℕ → Bool = λ x. eqb x 0 in
    ap (list_all p) (take-suc (drop at b) n 0 (omega (arith, length-drop at b)))
    ∙ list_all-append p (take n (drop at b)) (get_or (drop at b) n 0 ∷ [])
    ∙ (λ i. zeros_each b at n (omega arith) i && (and-true (p (get_or (drop at b) n 0)) ∙ ap p (get_or-drop at b n 0)) i)

-- each of the records is a frame's, by itself
pub frames_each : (b r : List ℕ) → list_all (is_frame b) r ≡ are_frames b r
unfolding are_frames
frames_each b [] = refl
frames_each b (i ∷ is) = ap (λ t. is_frame b i && t) (frames_each b is)
