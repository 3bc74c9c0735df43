-- The older edition goes on where a step leaves 32 bits, and differs in that alone.
use Prim.Native.Nat.{ℕ, zero, suc, ◌-◌, ◌^◌, ◌<◌}
use mathlib.Core.Path.{◌≡◌, refl, ap}
use mathlib.Core.Bool.{Bool, true, false, cond}
use mathlib.Core.List.{List, map}
use native.Mathlib.Omega.{arith}
use lib.Dec.{ltb, lit<}
use lib.IntN.{ℤ, pos, nat_abs}
use lib.ListN.{get_or, length}
use lib.Signed.{le_z, lt_z}
use Rattle.std.specs.Prelude.{Ok, Err}
use Rattle.word.specs.Int.{wrap32}
use Rattle.edition.specs.Edition.{older, newer}
use Rattle.stability.specs.Stability.{Stability, a_limit, answer_number, reflection, next_gain, next_coefficients, all_fit, goes_on, step, steps, total, stability_by, stability}
use Rattle.editions.specs.Tests.{Fits, EditionsAlike, OlderFits}
use Rattle.stability.specs.declared.Unstable.TheVariants.{Sum, Coefficient, Gain, Overflow}
use Rattle.stability.proofs.Turns.{then_holds, then_same, either_same}

module _ (limit : ℕ) where
  alike-steps : (a : List ℤ) (g : ℤ) (k : ℕ) → Fits (steps limit newer a g k) → steps limit older a g k ≡ steps limit newer a g k
  unfolding steps goes_on
  alike-steps a g zero n = refl
  alike-steps a g (suc k) n =
      then_same Fits (step limit (get_or a (suc k) (pos 0)) g (suc k)) _ _ (λ x. go x (all_fit (next_coefficients a (suc k))) (alike-steps next x k)) n
    where
      next : List ℤ
      next = map wrap32 (next_coefficients a (suc k))

      go : (x : ℤ) (b : Bool) → (Fits (steps limit newer next x k) → steps limit older next x k ≡ steps limit newer next x k)
          → Fits (cond b (steps limit newer next x k) (Err (Overflow (suc k))))
          → steps limit older next x k ≡ cond b (steps limit newer next x k) (Err (Overflow (suc k)))
      go x true h n = h n
      go x false h n = absurd (n (suc k) refl)

  -- an answer of another number
  other : (s : Stability) → answer_number s < 4 → Fits s
  unfolding answer_number
  other s h k e = let n : answer_number s ≡ 4 = ap answer_number e in omega arith

  step_fits : (a g : ℤ) (k : ℕ) → Fits (step limit a g k)
  unfolding step answer_number
  step_fits a g k = go (ltb limit (nat_abs a)) (lt_z (next_gain (reflection a) g) (pos 107374))
    where
      go : (b c : Bool) → Fits (cond b (Err (Coefficient k)) (cond c (Err (Gain k)) (Ok (next_gain (reflection a) g))))
      go true c = other (Err (Coefficient k)) (lit< tt)
      go false true = other (Err (Gain k)) (lit< tt)
      go false false = other (Ok _) (lit< tt)

  older-steps : (a : List ℤ) (g : ℤ) (k : ℕ) → Fits (steps limit older a g k)
  unfolding steps goes_on
  older-steps a g zero = step_fits (get_or a 0 (pos 0)) g 0
  older-steps a g (suc k) =
      then_holds Fits (step limit (get_or a (suc k) (pos 0)) g (suc k)) _ (step_fits (get_or a (suc k) (pos 0)) g (suc k))
      (λ x p. older-steps (map wrap32 (next_coefficients a (suc k))) x k)

pub alike : EditionsAlike
unfolding stability stability_by
alike a =
    either_same Fits (le_z (pos 4096) (total a (length a))) _ _ _ _ (λ p. refl) (alike-steps a_limit _ (pos (2 ^ 30)) (length a - 1))

pub older_fits : OlderFits
unfolding stability stability_by answer_number
older_fits a = go (le_z (pos 4096) (total a (length a))) (older-steps a_limit _ (pos (2 ^ 30)) (length a - 1))
  where
    go : (b : Bool) {s : Stability} → Fits s → Fits (cond b (Err Sum) s)
    go true h = other a_limit (Err Sum) (lit< tt)
    go false h = h
