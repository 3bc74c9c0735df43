-- Folds over a list by place, and the sum of what a closure gives of each item.
use Prim.Native.Nat.{ℕ, zero, suc, ◌+◌, ◌*◌, ◌^◌, ◌<◌, ◌≤◌}
use mathlib.Core.Path.{◌≡◌, refl, sym, ap, ◌∙◌, subst}
use mathlib.Core.List.{List, [], ◌∷◌}
use native.Mathlib.Nat.{le_refl, mul-le-mul_left}
use native.Mathlib.Numerals.{add-one}
use native.Mathlib.Omega.{arith}
use lib.IntN.{ℤ, pos, nat_abs, ◌+ℤ◌}
use lib.ListN.{length, get_or, take}
use lib.Seq.{take-length}
use Rattle.std.specs.Prelude.{Option, ⊤}
use Rattle.std.specs.declared.iter.Map.{Map}
use Rattle.std.specs.Fn.{Called}
use Rattle.std.specs.Iterator.{Yields, Drains}
use Rattle.std.specs.Iterator.Adapters.{map_source, map_callee, map_steps}
use Rattle.std.specs.Iterator.Runs.{EachRunFrom, YieldsRun}
use Rattle.std.specs.List.{fold}
use Rattle.std.proofs.lemmas.Iterator.Adapters.{YieldsAtMost}
use Rattle.std.proofs.lemmas.List.Sums.{fold_more}
use denote.Param.Members.{Mut}
use mir.Syntax.{w32}
use mir.Val.{SFits}
use Rattle.word.proofs.Sizes.{abs-add, abs-fits}

-- a fold over a list by place, where F n is what it gives of the first n
pub fold_by_place : {X Y : Type 0} (f : Y → X → Y) (F : ℕ → Y) (xs : List X) (d : X) → ((n : ℕ) → n < length xs → F (suc n) ≡ f (F n) (get_or xs n d)) → fold f (F 0) xs ≡ F (length xs)
fold_by_place f F xs d h = ap (fold f (F 0)) (sym (take-length xs)) ∙ go (length xs) (le_refl (length xs))
  where
    go : (n : ℕ) → n ≤ length xs → fold f (F 0) (take n xs) ≡ F n
    go zero l = refl
    go (suc n) l =
        ap (λ (m : ℕ). fold f (F 0) (take m xs)) (sym (add-one n)) ∙ fold_more f (F 0) xs n d l
        ∙ ap (λ y. f y (get_or xs n d)) (go n (omega arith)) ∙ sym (h n l)

-- ---- the sum of what a closure gives of each item
module _ {S A F : Type 0} (steps : S → Option A → S → Type 0) (g : Mut F (A × Unit {0}) ℤ) (f : F) (most : ℕ)
    (k : (x : A) (r : ℤ) (q : F) → Called g f (x, tt) r q → (q ≡ f) × (nat_abs r ≤ most)) where
  -- as many items as the source gave
  total_at_most : (xs : List ℤ) (a : ℤ) (s t : Map S F) → map_callee s ≡ f → Yields (map_steps steps g) s xs t
      → (ys : List A) × Yields steps (map_source s) ys (map_source t) × (length xs ≡ length ys) × (nat_abs (fold ◌+ℤ◌ a xs) ≤ nat_abs a + most * length xs)
  total_at_most [] a s t e y = ([], ap map_source y, refl, omega arith)
  total_at_most (r ∷ xs) a s t e y =
      let c = k y.1.0 r _ (subst (λ h. Called g h (y.1.0, tt) r (map_callee y.0)) e y.1.2) in
      let i = total_at_most xs (a +ℤ r) y.0 t c.0 y.2 in
      let turn : most * suc (length xs) ≡ most + most * length xs = omega arith in
      (y.1.0 ∷ i.0, (_, y.1.1, i.1), ap suc i.2, omega (arith, i.3, c.1, abs-add a r, turn))

-- up to n numbers of a size up to most
pub sum_fits : {S A F : Type 0} {steps : S → Option A → S → Type 0} {s : Map S F} (g : Mut F (A × Unit {0}) ℤ) (f : F) (most n : ℕ)
    → YieldsAtMost steps (map_source s) n → map_callee s ≡ f → most * n < 2 ^ 31
    → ((x : A) (r : ℤ) (q : F) → Called g f (x, tt) r q → (q ≡ f) × (nat_abs r ≤ most))
    → EachRunFrom (map_steps steps g) s (λ p. SFits w32 (fold ◌+ℤ◌ (pos 0) p.items))
unfolding YieldsRun
sum_fits {steps = steps} {s = s} g f most n few e l k = λ p _ at.
    let run = subst (λ u. Yields (map_steps steps g) u p.items p.gave.0.0) at p.gave.0.1 in
    let t = total_at_most steps g f most k p.items (pos 0) s p.gave.0.0 e run in
    let b = few.runs t.0 _ t.1 in
    let m : most * length p.items ≤ most * n = mul-le-mul_left most (omega (arith, t.2, b)) in
    abs-fits (fold ◌+ℤ◌ (pos 0) p.items) (omega (arith, t.3))

-- the size of a sum of up to n numbers of a size up to most
pub sum_at_most : {S A F : Type 0} {steps : S → Option A → S → Type 0} {s : Map S F} (g : Mut F (A × Unit {0}) ℤ) (f : F) (most n : ℕ) (r : ℤ)
    → YieldsAtMost steps (map_source s) n → map_callee s ≡ f
    → ((x : A) (r : ℤ) (q : F) → Called g f (x, tt) r q → (q ≡ f) × (nat_abs r ≤ most))
    → ((xs : List ℤ) × (⊤ → Drains (map_steps steps g) s xs) × (r ≡ fold (λ a x. a +ℤ x) (pos 0) xs)) → nat_abs r ≤ most * n
sum_at_most {steps = steps} {s = s} g f most n r few e k ran =
    let d = ran.1 tt in
    let t = total_at_most steps g f most k ran.0 (pos 0) s d.1.0 e d.1.1 in
    let b = few.runs t.0 _ t.1 in
    let m : most * length ran.0 ≤ most * n = mul-le-mul_left most (omega (arith, t.2, b)) in
    rw ran.2 (omega (arith, t.3, m))
