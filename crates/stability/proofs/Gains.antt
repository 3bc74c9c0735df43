-- The range of the inverse gain, at every limit and edition.
use Prim.Native.Nat.{ℕ, zero, suc, ◌-◌, ◌*◌, ◌/◌, ◌^◌, ◌<◌, ◌≤◌}
use mathlib.Core.Path.{◌≡◌, refl}
use mathlib.Core.Logic.{◌⊎◌, inl, inr}
use mathlib.Core.Bool.{Bool, true, false, cond}
use mathlib.Core.List.{List, map}
use native.Mathlib.Nat.{le_refl, mul-le-mul}
use native.Mathlib.Omega.{arith}
use borrow.Author.Tests.{ltb-false}
use lib.Dec.{ltb}
use lib.IntN.{ℤ, pos, negsuc, nat_abs, ◌-ℤ◌, ◌*ℤ◌}
use lib.ListN.{get_or, length}
use lib.Signed.{lt_z, le_z}
use mir.Syntax.{w32}
use mir.Val.{SFits}
use Rattle.std.specs.Prelude.{Ok, Err}
use Rattle.word.specs.Int.{floor_div, wrap32}
use Rattle.word.proofs.Parts.{eq_parts, sub_parts_ℤ}
use Rattle.word.proofs.Sizes.{abs-fits, fits-abs}
use Rattle.word.proofs.Words.{wrap_id, wrap-fits}
use Rattle.macros.specs.Fixed.{smmul}
use Rattle.stability.specs.Stability.{reflection, rc_mult1, next_gain, next_coefficients, goes_on, step, steps, total, a_limit, Stability, stability_by, stability, inverse_gain}
use Rattle.stability.specs.declared.Unstable.TheVariants.{Sum, Coefficient, Gain, Overflow}
use Rattle.stability.proofs.Turns.{then_holds}

-- z is a number from 0 to B
abbrev UpTo : ℕ → ℤ → Type 0
UpTo B z = (n : ℕ) × (z ≡ pos n) × (n ≤ B)

kept_pos : (n : ℕ) → n < 2 ^ 31 → wrap32 (pos n) ≡ pos n
kept_pos n h = wrap_id (abs-fits (pos n) h)

-- the high word of a product of sizes up to 2 ^ 31
smmul_pos : (n m : ℕ) → n * m ≤ 2 ^ 62 → wrap32 (floor_div (pos (n * m)) (2 ^ 32)) ≡ pos (n * m / 2 ^ 32)
smmul_pos n m h = kept_pos (n * m / 2 ^ 32) (omega arith)

square : (z : ℤ) → z *ℤ z ≡ pos (nat_abs z * nat_abs z)
square (pos n) = refl
square (negsuc n) = refl

-- 1 less a square is from 0 to 1
mult1_range : (rc : ℤ) → SFits w32 rc → UpTo (2 ^ 30) (rc_mult1 rc)
unfolding rc_mult1 smmul
mult1_range rc f =
    let s = nat_abs rc * nat_abs rc in
    let b : s ≤ 2 ^ 31 * 2 ^ 31 = mul-le-mul (fits-abs rc f) (fits-abs rc f) in
    let q = s / 2 ^ 32 in
    let e : pos (2 ^ 30) -ℤ pos q ≡ pos (2 ^ 30 - q) = eq_parts (pos (2 ^ 30) -ℤ pos q) (pos (2 ^ 30 - q)) (omega (arith, sub_parts_ℤ (pos (2 ^ 30)) (pos q))) in
    (2 ^ 30 - q, rw (square rc, smmul_pos (nat_abs rc) (nat_abs rc) b, e) (kept_pos (2 ^ 30 - q) (omega arith)), omega arith)

-- so no step raises the gain
gain_range : (rc g : ℤ) → SFits w32 rc → UpTo (2 ^ 30) g → UpTo (2 ^ 30) (next_gain rc g)
unfolding next_gain smmul
gain_range rc g f u =
    let m = mult1_range rc f in
    let b : u.0 * m.0 ≤ 2 ^ 30 * 2 ^ 30 = mul-le-mul u.2 m.2 in
    let q = u.0 * m.0 / 2 ^ 32 in
    (q * 2 ^ 2, rw (u.1, m.1, smmul_pos u.0 m.0 (omega arith)) (kept_pos (q * 2 ^ 2) (omega arith)), omega arith)

-- a gain that passed its test
abbrev Passed : ℤ → Type 0
Passed g = (n : ℕ) × (g ≡ pos n) × (107374 ≤ n) × (n ≤ 2 ^ 30)

abbrev Ranged : Stability → Type 0
Ranged (Ok g) = Passed g
Ranged (Err why) = Unit

step_ranged : (limit : ℕ) (a g : ℤ) (k : ℕ) → UpTo (2 ^ 30) g → Ranged (step limit a g k)
unfolding step reflection
step_ranged limit a g k u = go (ltb limit (nat_abs a)) (lt_z (next_gain (reflection a) g) (pos 107374)) refl (gain_range (reflection a) g (wrap-fits w32 _) u)
  where
    go : (b t : Bool) → lt_z (next_gain (reflection a) g) (pos 107374) ≡ t → UpTo (2 ^ 30) (next_gain (reflection a) g) → Ranged (cond b (Err (Coefficient k)) (cond t (Err (Gain k)) (Ok (next_gain (reflection a) g))))
    go true t e v = tt
    go false true e v = tt
    go false false e v =
        let l : ltb v.0 107374 ≡ false = rw v.1 at e in
        (v.0, v.1, ltb-false v.0 107374 l, v.2)

steps_ranged : (limit : ℕ) (e : ℤ) (a : List ℤ) (g : ℤ) (k : ℕ) → UpTo (2 ^ 30) g → Ranged (steps limit e a g k)
unfolding steps
steps_ranged limit e a g zero u = step_ranged limit (get_or a 0 (pos 0)) g 0 u
steps_ranged limit e a g (suc k) u =
    then_holds Ranged (step limit (get_or a (suc k) (pos 0)) g (suc k)) _ (step_ranged limit (get_or a (suc k) (pos 0)) g (suc k) u)
    (λ x v. go (goes_on e (next_coefficients a (suc k))) x (steps_ranged limit e (map wrap32 (next_coefficients a (suc k))) x k (v.0, v.1, v.3)))
  where
    go : (b : Bool) (x : ℤ) → Ranged (steps limit e (map wrap32 (next_coefficients a (suc k))) x k) → Ranged (cond b (steps limit e (map wrap32 (next_coefficients a (suc k))) x k) (Err (Overflow (suc k))))
    go true x h = h
    go false x h = tt

whole_ranged : (limit : ℕ) (e : ℤ) (a : List ℤ) → Ranged (stability_by limit e a)
unfolding stability_by
whole_ranged limit e a = go (le_z (pos 4096) (total a (length a))) _ (steps_ranged limit e _ (pos (2 ^ 30)) (length a - 1) (2 ^ 30, refl, le_refl (2 ^ 30)))
  where
    go : (b : Bool) (s : Stability) → Ranged s → Ranged (cond b (Err Sum) s)
    go true s h = tt
    go false s h = h

number : (s : Stability) → Ranged s → (n : ℕ) × (inverse_gain s ≡ pos n) × (n ≤ 2 ^ 30) × ((n ≡ 0) ⊎ (107374 ≤ n))
unfolding inverse_gain
number (Ok g) h = (h.0, h.1, h.3, inr h.2)
number (Err why) h = (0, refl, omega arith, inl refl)

-- the inverse gain is 0, or from 107,374 to 2 ^ 30
pub inverse_gain-by : (limit : ℕ) (e : ℤ) (a : List ℤ) → (n : ℕ) × (inverse_gain (stability_by limit e a) ≡ pos n) × (n ≤ 2 ^ 30) × ((n ≡ 0) ⊎ (107374 ≤ n))
inverse_gain-by limit e a = number (stability_by limit e a) (whole_ranged limit e a)

pub inverse_gain_lem : (e : ℤ) (a : List ℤ) → (n : ℕ) × (inverse_gain (stability e a) ≡ pos n) × (n ≤ 2 ^ 30) × ((n ≡ 0) ⊎ (107374 ≤ n))
unfolding stability
inverse_gain_lem e a = inverse_gain-by a_limit e a
