-- The rounds that fit and stabilise coefficients.
use Prim.Native.Nat.{ℕ, zero, suc, min, ◌+◌, ◌-◌, ◌<◌, ◌≤◌}
use Prim.Native.Nat.{◌^◌}
use mathlib.Core.Path.{◌≡◌, refl, ap}
use mathlib.Core.Bool.{Bool, true, false, cond}
use mathlib.Core.List.{List, [], ◌∷◌}
use native.Mathlib.Numerals.{add-one}
use native.Mathlib.Omega.{arith}
use lib.IntN.{ℤ, pos, nat_abs, ◌+ℤ◌, ◌*ℤ◌}
use lib.ListN.{length, get_or}
use lib.Signed.{lt_z}
use mir.Syntax.{w16}
use mir.Val.{SFits}
use Rattle.word.specs.Int.{wrap16, sat16, floor_div, eq_ℤ}
use Rattle.word.proofs.Order.{sat16-fits}
use Rattle.word.proofs.Parts.{eq_parts, div_parts, add_parts, mul-parts}
use Rattle.word.proofs.Words.{wrap_id}
use Rattle.macros.proofs.Rounding.{round_at}
use Rattle.word.proofs.Lists.{length-tabulate}
use Rattle.stability.specs.Stability.{stability, inverse_gain}
use Rattle.nlsf.specs.Expand.{bwexpander32}
use Rattle.nlsf.specs.Fit.{Fit, higher, largest_by, maxabs, fit_chirp, in_q12, rounded, saturated, lpc_fit}
use Rattle.nlsf.specs.Filter.{expanded, stabilised}

pub length-bwexpander32 : (chirp : ℤ) (a : List ℤ) → length (bwexpander32 chirp a) ≡ length a
unfolding bwexpander32
length-bwexpander32 chirp a = length-tabulate (length a) _

-- the largest stands at one of the places
pub largest_place : (f : ℤ → ℤ) (a : List ℤ) (n : ℕ) → (largest_by f a n).place ≤ n - 1
unfolding largest_by higher
largest_place f a zero = omega arith
largest_place f a (suc n) =
    let e : suc n - 1 ≡ n = omega arith in
    rw e (go (lt_z (largest_by f a n).size (f (get_or a n (pos 0)))) (largest_place f a n))
  where
    go : (b : Bool) → (largest_by f a n).place ≤ n - 1 → (cond b (record { size = f (get_or a n (pos 0)); place = n }) (largest_by f a n)).place ≤ n
    go true k = omega arith
    go false k = omega arith

-- a round that fits coefficients
module _ (a : List ℤ) (i : ℕ) (h : i < 10) where
  abbrev Largest : ℤ
  Largest = in_q12 (maxabs a (length a)).size

  fits-left : 10 - i ≡ suc (10 - (i + 1))
  fits-left = omega arith

  pub fit-stops : lt_z (pos 32767) Largest ≡ false → lpc_fit (10 - i) a ≡ record { q12 = rounded a; q17 = a }
  unfolding lpc_fit
  fit-stops e = rw (fits-left, e) refl

  pub fit-goes_on : lt_z (pos 32767) Largest ≡ true → lpc_fit (10 - i) a ≡ lpc_fit (10 - (i + 1)) (bwexpander32 (fit_chirp (min (nat_abs Largest) 163838) (maxabs a (length a)).place) a)
  unfolding lpc_fit
  fit-goes_on e = rw (fits-left, e) refl

pub fit_ends : (a : List ℤ) → lpc_fit 0 a ≡ saturated a
unfolding lpc_fit
fit_ends a = refl

-- saturated coefficients are those of 16 bits in Q12, rounded
back_in_q12 : (s : ℤ) → SFits w16 s → wrap16 (in_q12 (s *ℤ pos (2 ^ 5))) ≡ s
unfolding in_q12
back_in_q12 s h =
    let z = s *ℤ pos (2 ^ 5) +ℤ pos (2 ^ 4) in
    let q : floor_div z (2 ^ 5) ≡ s =
    eq_parts (floor_div z (2 ^ 5)) s (omega (arith, div_parts z (2 ^ 5) (omega arith), add_parts (s *ℤ pos (2 ^ 5)) (pos (2 ^ 4)), mul-parts s (pos (2 ^ 5)))) in
    rw (round_at (s *ℤ pos (2 ^ 5)) 4 (omega arith), q) (wrap_id h)

pub rounded-saturated : (a : List ℤ) → rounded (saturated a).q17 ≡ (saturated a).q12
unfolding rounded saturated
rounded-saturated [] = refl
rounded-saturated (x ∷ xs) = rw (back_in_q12 (sat16 (in_q12 x)) (sat16-fits _)) (ap (λ (r : List ℤ). sat16 (in_q12 x) ∷ r) (rounded-saturated xs))

-- a round that stabilises them
module _ (e : ℤ) (q a : List ℤ) (i : ℕ) (h : i < 16) where
  abbrev Stable : Bool → Type 0
  Stable b = eq_ℤ (inverse_gain (stability e q)) (pos 0) ≡ b

  rounds-left : 16 - i ≡ suc (16 - (i + 1))
  rounds-left = omega arith

  pub rounds_stop : Stable false → stabilised e (16 - i) i (record { q12 = q; q17 = a }) ≡ record { q12 = q; q17 = a }
  unfolding stabilised
  rounds_stop s = rw (rounds-left, s) refl

  pub rounds_go_on : Stable true → stabilised e (16 - i) i (record { q12 = q; q17 = a }) ≡ stabilised e (16 - (i + 1)) (i + 1) (expanded i (record { q12 = q; q17 = a }))
  unfolding stabilised
  rounds_go_on s = rw (rounds-left, s, add-one) refl

pub rounds_end : (e : ℤ) (i : ℕ) (f : Fit) → stabilised e 0 i f ≡ f
unfolding stabilised
rounds_end e i f = refl
