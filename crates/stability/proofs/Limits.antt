-- Under two limits, the answers that are the same.
use Prim.Native.Nat.{ℕ, zero, suc, ◌-◌, ◌^◌, ◌≤◌}
use mathlib.Core.Path.{◌≡◌, refl, ap, ◌∙◌}
use mathlib.Core.Bool.{Bool, true, false, cond}
use mathlib.Core.List.{List, map}
use native.Mathlib.Omega.{arith}
use borrow.Author.Tests.{ltb-false, le-ltb}
use lib.Dec.{ltb}
use lib.IntN.{ℤ, pos, nat_abs}
use lib.ListN.{get_or, length}
use lib.Signed.{le_z, lt_z}
use Rattle.std.specs.Prelude.{Ok, Err}
use Rattle.word.specs.Int.{wrap32}
use Rattle.stability.specs.Stability.{Stability, reflection, next_gain, next_coefficients, goes_on, step, and_then, steps, total, stability_by}
use Rattle.stability.specs.Limit.{Within, SameAnswer}
use Rattle.stability.specs.declared.Unstable.TheVariants.{Coefficient, Gain, Overflow}
use Rattle.stability.proofs.Turns.{then_same, either_same}

module _ (low high : ℕ) (h : low ≤ high) where
  same_step : (a g : ℤ) (k : ℕ) → Within (step low a g k) → step high a g k ≡ step low a g k
  unfolding step
  same_step a g k = go (ltb low (nat_abs a)) refl
    where
      rest : Stability
      rest = cond (lt_z (next_gain (reflection a) g) (pos 107374)) (Err (Gain k)) (Ok (next_gain (reflection a) g))

      go : (b : Bool) → ltb low (nat_abs a) ≡ b → Within (cond b (Err (Coefficient k)) rest) → cond (ltb high (nat_abs a)) (Err (Coefficient k)) rest ≡ cond b (Err (Coefficient k)) rest
      go true e n = absurd (n k refl)
      go false e n = let m = ltb-false low (nat_abs a) e in rw (le-ltb high (nat_abs a) (omega arith)) refl

  first-within : (s : Stability) (f : ℤ → Stability) → Within (and_then s f) → Within s
  unfolding and_then
  first-within (Ok g) f n = λ k e. cc
  first-within (Err why) f n = n

  same-steps : (e : ℤ) (a : List ℤ) (g : ℤ) (k : ℕ) → Within (steps low e a g k) → steps high e a g k ≡ steps low e a g k
  unfolding steps
  same-steps e a g zero n = same_step (get_or a 0 (pos 0)) g 0 n
  same-steps e a g (suc k) n =
      ap (λ (s : Stability). and_then s (λ x. cond (goes_on e (next_coefficients a (suc k))) (steps high e (map wrap32 (next_coefficients a (suc k))) x k) (Err (Overflow (suc k))))) (same_step (get_or a (suc k) (pos 0)) g (suc k) (first-within (step low (get_or a (suc k) (pos 0)) g (suc k)) _ n))
      ∙ then_same Within (step low (get_or a (suc k) (pos 0)) g (suc k)) _ _ (λ x. either_same Within (goes_on e (next_coefficients a (suc k))) _ _ _ _ (same-steps e (map wrap32 (next_coefficients a (suc k))) x k) (λ p. refl)) n

pub same_answer : SameAnswer
unfolding stability_by
same_answer low high h e a =
    either_same Within (le_z (pos 4096) (total a (length a))) _ _ _ _ (λ p. refl) (same-steps low high h e _ (pos (2 ^ 30)) (length a - 1))
