use Prim.Native.Nat.{ℕ, zero, suc, ◌+◌, ◌<◌, ◌≤◌}
use mathlib.Core.Path.{◌≡◌, refl, sym, ap, ◌∙◌, subst}
use mathlib.Core.Bool.{Bool, true, false}
use mathlib.Core.List.{List, map}
use native.Mathlib.Nat.{le_antisymm}
use native.Mathlib.Omega.{arith}
use borrow.Author.Rules.{rules}
use borrow.Author.Tests.{ltb-true, ltb-false}
use denote.Param.Members.{Mut}
use lib.Dec.{ltb}
use lib.IntN.{ℤ, pos}
use lib.ListN.{length, get_or, length-map}
use Rattle.std.specs.Array.{MapsFrom}
use Rattle.std.specs.Fn.{Called}
use Rattle.std.proofs.lemmas.List.{ext_get_or, get_or-map}
use Rattle.plc.specs.Conceal.{faded}
use Rattle.plc.proofs.conceal.faded_taps.Goals as goal

-- a place from i on is i or a later one
split : (P : ℕ → Type 0) (i j : ℕ) → i ≤ j → P i → (i + 1 ≤ j → P j) → P j
split P i j l a b = go (ltb i j) refl
  where
    go : (t : Bool) → ltb i j ≡ t → P j
    go true t = b (omega (arith, ltb-true i j t))
    go false t = subst P (le_antisymm l (ltb-false i j t)) a

-- calls in turn, none of which changes the closure
module _ {F : Type 0} (g : Mut F (ℤ × Unit {0}) ℤ) (f : F) (h : ℤ → ℤ) (k : (x y : ℤ) (q : F) → Called g f (x, tt) y q → (q ≡ f) × (y ≡ h x)) where
  each : (n i : ℕ) (q : F) (xs ys : List ℤ) → q ≡ f → MapsFrom g q xs ys i n → (j : ℕ) → i ≤ j → j < i + n → get_or ys j (pos 0) ≡ h (get_or xs j (pos 0))
  each zero i q xs ys e m j l u = absurd (omega arith)
  each (suc n) i q xs ys e m j l u =
      let c = k m.1 m.2 m.0 (subst (λ (r : F). Called g r (m.1, tt) m.2 m.0) e m.5) in
      split (λ (p : ℕ). get_or ys p (pos 0) ≡ h (get_or xs p (pos 0))) i j l (m.4.1 (pos 0) ∙ c.1 ∙ ap h (sym (m.3.1 (pos 0)))) (λ s. each n (i + 1) m.0 xs ys c.0 m.6 j s (omega arith))

pub returns : goal.returns
returns c =
    let h = faded c.args.gain in
    let taps = c.args.taps in
    let n : length taps ≡ 5 = search rules in
    let r = c.map.ensures.items in
    let p = each _ _ h (λ x y q k. search rules) 5 0 _ taps c.map.result refl r.each in
    ext_get_or (pos 0) c.map.result (map h taps) (r.long ∙ sym n ∙ sym (length-map taps h))
    (λ i l. p i (omega arith) (omega (arith, r.long, l)) ∙ sym (get_or-map h taps i (pos 0) (pos 0) (omega (arith, r.long, l, n))))
