-- An array that `map` makes of another, by a closure that keeps what it captures.
use Rattle.std.proofs.Common.{◌≡◌, ℕ, zero, suc, ◌+◌, ◌<◌, List, map, get_or, length, refl, sym, ap, subst, ◌∙◌, arith}
use native.Mathlib.Nat.{not-suc-le-zero}
use denote.Param.Members.{Mut, Called}
use Rattle.std.specs.Array.{MapsFrom, IsMapOf}
use Rattle.std.proofs.lemmas.List.{ext_get_or, get_or-map, length-map}

module _ {F A B : Type 0} (g : Mut F (A × Unit {0}) B) (f : F) (h : A → B) (k : (x : A) (y : B) (q : F) → Called g f (x, tt) y q → (y ≡ h x) × (q ≡ f)) (d : A) (e : B) where
  mapped-at : (p : F) (xs : List A) (ys : List B) (i n j : ℕ) → p ≡ f → MapsFrom g p xs ys i n → j < n → get_or ys (i + j) e ≡ h (get_or xs (i + j) d)
  mapped-at p xs ys i zero j r t l = absurd (not-suc-le-zero l)
  mapped-at p xs ys i (suc n) zero r t l =
      let one = k t.1 t.2 t.0 (subst (λ (y : F). Called g y (t.1, tt) t.2 t.0) r t.5) in
      let z : i + 0 ≡ i = omega arith in
      rw z (t.4.1 e ∙ one.0 ∙ ap h (sym (t.3.1 d)))
  mapped-at p xs ys i (suc n) (suc j) r t l =
      let one = k t.1 t.2 t.0 (subst (λ (y : F). Called g y (t.1, tt) t.2 t.0) r t.5) in
      let z : i + suc j ≡ i + 1 + j = omega arith in
      rw z (mapped-at t.0 xs ys (i + 1) n j one.1 t.6 (omega arith))

  pub mapped : (xs : List A) (ys : List B) (n : ℕ) → length xs ≡ n → IsMapOf g f xs ys n → ys ≡ map h xs
  mapped xs ys n s t =
      ext_get_or e ys (map h xs) (t.long ∙ sym (length-map xs h ∙ s)) (λ i l.
      let m : i < n = subst (λ (a : ℕ). i < a) t.long l in
      let w : i < length xs = subst (λ (a : ℕ). i < a) (sym s) m in
      let z : 0 + i ≡ i = omega arith in
      (rw z at (mapped-at f xs ys 0 n i refl t.each m)) ∙ sym (get_or-map h xs i d e w))
