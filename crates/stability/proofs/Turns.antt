-- A turn of the steps: what each outcome makes of them.
use Prim.Native.Nat.{ℕ, zero, suc, ◌-◌, ◌<◌, ◌≤◌}
use mathlib.Core.Path.{◌≡◌, refl}
use mathlib.Core.Bool.{Bool, true, false, cond}
use mathlib.Core.List.{List, map}
use native.Mathlib.Omega.{arith}
use native.Mathlib.Nat.{not-suc-le-zero}
use lib.IntN.{ℤ, pos}
use lib.ListN.{get_or, take}
use lib.Seq.{get_or-take}
use Rattle.word.specs.Int.{wrap32}
use Rattle.word.proofs.Lists.{tabulate_cong}
use Rattle.std.specs.Prelude.{Ok, Err}
use Rattle.stability.specs.Stability.{Stability, reflection, rc_mult1, rc_mult2, bit_length, step_down, stepped, next_coefficients, goes_on, step, and_then, steps}
use Rattle.stability.specs.declared.Unstable.{Unstable}
use Rattle.stability.specs.declared.Unstable.TheVariants.{Overflow}

-- the steps from place k read only the coefficients up to it
next_cong : (a b : List ℤ) (k : ℕ) → ((i : ℕ) → i ≤ k → get_or a i (pos 0) ≡ get_or b i (pos 0)) → next_coefficients a k ≡ next_coefficients b k
unfolding next_coefficients stepped
next_cong a b k h =
    tabulate_cong k _ _ (λ n l i. let rc = reflection (h k (omega arith) i) in
    step_down rc (rc_mult2 (rc_mult1 rc)) (pos (bit_length (rc_mult1 rc))) (h n (omega arith) i) (h (k - 1 - n) (omega arith) i))

pub steps_cong : (limit : ℕ) (e : ℤ) (a b : List ℤ) (g : ℤ) (k : ℕ) → ((i : ℕ) → i ≤ k → get_or a i (pos 0) ≡ get_or b i (pos 0)) → steps limit e a g k ≡ steps limit e b g k
unfolding steps
steps_cong limit e a b g zero h = λ i. step limit (h 0 (omega arith) i) g 0
steps_cong limit e a b g (suc k) h = λ i.
    let next = next_cong a b (suc k) h i in
    and_then (step limit (h (suc k) (omega arith) i) g (suc k))
    (λ x. cond (goes_on e next) (steps limit e (map wrap32 next) x k) (Err (Overflow (suc k))))

-- a property of answers
module _ (P : Stability → Type 0) where
  -- that what follows keeps
  pub then_holds : (s : Stability) (f : ℤ → Stability) → P s → ((x : ℤ) → P (Ok x) → P (f x)) → P (and_then s f)
  unfolding and_then
  then_holds (Ok x) f p h = h x p
  then_holds (Err why) f p h = p

  -- where it holds of what follows, f and g are the same
  pub then_same : (s : Stability) (f g : ℤ → Stability) → ((x : ℤ) → P (f x) → g x ≡ f x) → P (and_then s f) → and_then s g ≡ and_then s f
  unfolding and_then
  then_same (Ok x) f g h p = h x p
  then_same (Err why) f g h p = refl

  -- and of one of two answers
  pub either_same : (b : Bool) (s t u v : Stability) → (P t → s ≡ t) → (P v → u ≡ v) → P (cond b t v) → cond b s u ≡ cond b t v
  either_same true s t u v h k p = h p
  either_same false s t u v h k p = k p

-- a turn at a place above 0
module _ (limit : ℕ) (e : ℤ) (a : List ℤ) (g : ℤ) (k : ℕ) (p : 0 < k) where
  opened : steps limit e a g k ≡ and_then (step limit (get_or a k (pos 0)) g k) (λ h. cond (goes_on e (next_coefficients a k)) (steps limit e (map wrap32 (next_coefficients a k)) h (k - 1)) (Err (Overflow k)))
  unfolding steps
  opened = go k p
    where
      go : (k : ℕ) → 0 < k → steps limit e a g k ≡ and_then (step limit (get_or a k (pos 0)) g k) (λ h. cond (goes_on e (next_coefficients a k)) (steps limit e (map wrap32 (next_coefficients a k)) h (k - 1)) (Err (Overflow k)))
      go zero p = absurd (not-suc-le-zero p)
      go (suc k) p = let e : suc k - 1 ≡ k = omega arith in rw e refl

  pub turn_ends : {why : Unstable} → step limit (get_or a k (pos 0)) g k ≡ Err why → steps limit e a g k ≡ Err why
  unfolding and_then
  turn_ends s = rw (opened, s) refl

  pub turn_overflows : {h : ℤ} → step limit (get_or a k (pos 0)) g k ≡ Ok h → goes_on e (next_coefficients a k) ≡ false → steps limit e a g k ≡ Err (Overflow k)
  unfolding and_then
  turn_overflows s o = rw (opened, s, o) refl

  pub turn-goes_on : {h : ℤ} (b : List ℤ) → step limit (get_or a k (pos 0)) g k ≡ Ok h → goes_on e (next_coefficients a k) ≡ true → take k b ≡ map wrap32 (next_coefficients a k) → steps limit e a g k ≡ steps limit e b h (k - 1)
  unfolding and_then
  turn-goes_on {h} b s o t =
      rw (opened, s, o, ← t) (steps_cong limit e (take k b) b h (k - 1) (λ i l. get_or-take k b i (pos 0) (omega arith)))
