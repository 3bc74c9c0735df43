-- The front of a slice written.
use Prim.Native.Nat.{◌≤◌}
use mathlib.Core.Path.{◌≡◌, refl}
use mathlib.Core.Bool.{Bool}
use mathlib.Core.List.{List, [], ◌∷◌}
use native.Mathlib.Omega.{arith}
use lib.IntN.{ℤ}
use lib.ListN.{length, drop, set}
use Rattle.std.specs.Prelude.{Result, Ok, Err, IsOkAnd, MatchResult}
use Rattle.refusal.specs.declared.Refusal.{Refusal}
use Rattle.post_filters.specs.Calls.{called, given}

pub set-one : (lent : List ℤ) (x : ℤ) → 1 ≤ length lent → set lent 0 x ≡ x ∷ drop 1 lent
set-one [] x h = absurd (omega arith)
set-one (a ∷ lent) x h = refl

pub set-two : (lent : List ℤ) (x y : ℤ) → 2 ≤ length lent → set (set lent 0 x) 1 y ≡ x ∷ y ∷ drop 2 lent
set-two [] x y h = absurd (omega arith)
set-two (a ∷ []) x y h = absurd (omega arith)
set-two (a ∷ b ∷ lent) x y h = refl

-- a call's value as a number
pub mapped : {A : Type 0} (g : A → ℤ) (P : A → ℤ → Type 0) → ((x : A) (y : ℤ) → P x y → y ≡ g x) → (r : Result A Refusal) (m : Result ℤ Refusal) → MatchResult r (λ x. IsOkAnd m (P x)) (λ e. m ≡ Err e)
    → (short : Bool) (lent : List ℤ) → called short (λ x. x ∷ []) m lent ≡ called short (λ x. g x ∷ []) r lent
unfolding called given
mapped g P h (Ok x) (Ok y) k short lent = rw (h x y k) refl
mapped g P h (Ok x) (Err e) k short lent = absurd k
mapped g P h (Err e) m k short lent = rw k refl
