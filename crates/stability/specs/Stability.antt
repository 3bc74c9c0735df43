-- The stability test of a short-term filter (document 01, "A lost frame"; RFC 6716, 4.2.7.5.8; lpc_analysis.rs).
use Rattle.std.specs.Prelude.{ℕ, zero, suc, ◌+◌, ◌-◌, ◌^◌, Bool, true, cond, not, ◌&&◌, ◌||◌, List, [], ◌∷◌, map, ltb, ℤ, pos, nat_abs, neg_ℤ, ◌+ℤ◌, ◌-ℤ◌, ◌*ℤ◌, get_or, length, take, Result, Ok, Err}
use Rattle.std.specs.Int.Signed.{lt_z, le_z}
use Rattle.word.specs.Int.{eq_ℤ, wrap32}
use Rattle.word.specs.Tabulate.{tabulate}
use Rattle.macros.specs.Fixed.{smmul, clz32, rshift_round64, mul_q}
use Rattle.macros.specs.Quotient.{inverse32_varq}
use Rattle.edition.specs.Edition.{older, newer, is_edition}
use Rattle.refusal.specs.First.{◌gives◌, first_of}
use Rattle.refusal.specs.Refusals.{Judged, answered}
use Rattle.refusal.specs.declared.Refusal.{Refusal}
use Rattle.refusal.specs.declared.Refusal.TheVariants.{Order, Edition}
use Rattle.stability.specs.declared.Unstable.{Unstable}
use Rattle.stability.specs.declared.Unstable.TheVariants.{Sum, Coefficient, Gain, Overflow}

-- a filter's inverse gain (Q30), or why there is none
abbrev pub Stability : Type 0
Stability = Result ℤ Unstable

-- document 02, Note 7, in its order: 0 is the inverse gain, 1 the sum, 2 a step's coefficient, 3 its gain, 4 a step beyond 32 bits
unfoldable pub answer_number : Stability → ℕ
answer_number (Ok g) = 0
answer_number (Err Sum) = 1
answer_number (Err (Coefficient k)) = 2
answer_number (Err (Gain k)) = 3
answer_number (Err (Overflow k)) = 4

-- the inverse gain (Q30), or the number of the step: the place of its coefficient, from 0; the sum has none
unfoldable pub answer_value : Stability → ℤ
answer_value (Ok g) = g
answer_value (Err Sum) = pos 0
answer_value (Err (Coefficient k)) = pos k
answer_value (Err (Gain k)) = pos k
answer_value (Err (Overflow k)) = pos k

-- the largest size of a step's coefficient (Q24; RFC 6716, 4.2.7.5.8)
unfoldable pub a_limit : ℕ
a_limit = 16773022

-- the reflection coefficient (Q31) of a step's coefficient a (Q24)
unfoldable pub reflection : ℤ → ℤ
reflection a = wrap32 (neg_ℤ (a *ℤ pos (2 ^ 7)))

-- 1 less the square of a reflection coefficient (Q30)
unfoldable pub rc_mult1 : ℤ → ℤ
rc_mult1 rc = wrap32 (pos (2 ^ 30) -ℤ smmul rc rc)

-- the gain g (Q30) after a step
unfoldable pub next_gain : ℤ → ℤ → ℤ
next_gain rc g = wrap32 (smmul g (rc_mult1 rc) *ℤ pos (2 ^ 2))

-- how many bits a number of 32 has without its sign
unfoldable pub bit_length : ℤ → ℕ
bit_length m = 32 - clz32 (wrap32 (pos (nat_abs m)))

-- the inverse of m (Q30), with as many more places as m has bits
unfoldable pub rc_mult2 : ℤ → ℤ
rc_mult2 m = inverse32_varq m (pos (bit_length m + 30))

-- a coefficient x after a step, from itself and another, y: the difference wraps
unfoldable pub step_down : ℤ → ℤ → ℤ → ℤ → ℤ → ℤ
step_down rc mult2 q x y = rshift_round64 (wrap32 (x -ℤ mul_q y rc (pos 31)) *ℤ mult2) q

-- the coefficients below place k after a step: each with the one as far from the other end
unfoldable pub stepped : ℤ → ℤ → ℤ → List ℤ → ℕ → List ℤ
stepped rc mult2 q a k = tabulate k (λ n. step_down rc mult2 q (get_or a n (pos 0)) (get_or a (k - 1 - n) (pos 0)))

-- those after the step at place k
unfoldable pub next_coefficients : List ℤ → ℕ → List ℤ
next_coefficients a k =
    let rc = reflection (get_or a k (pos 0)) in
    let m = rc_mult1 rc in
    stepped rc (rc_mult2 m) (pos (bit_length m)) a k

-- z is a number of 32 bits
unfoldable pub fits32 : ℤ → Bool
fits32 z = eq_ℤ (wrap32 z) z

-- all numbers of a list are of 32 bits
unfoldable pub all_fit : List ℤ → Bool
all_fit [] = true
all_fit (x ∷ xs) = fits32 x && all_fit xs

-- the test goes on with the coefficients after a step if all are of 32 bits; the older edition goes on with the low 32 of any
unfoldable pub goes_on : ℤ → List ℤ → Bool
goes_on e xs = eq_ℤ e older || all_fit xs

-- the two tests of a step at place k: its coefficient's size, then the gain after it
unfoldable pub step : ℕ → ℤ → ℤ → ℕ → Stability
step limit a g k =
    cond (ltb limit (nat_abs a)) (Err (Coefficient k))
    (cond (lt_z (next_gain (reflection a) g) (pos 107374)) (Err (Gain k)) (Ok (next_gain (reflection a) g)))

-- what follows a step whose tests passed
unfoldable pub and_then : Stability → (ℤ → Stability) → Stability
and_then (Ok g) f = f g
and_then (Err why) f = Err why

-- the steps at the places k to 0, from coefficients a (Q24) and gain g
unfoldable pub steps : ℕ → ℤ → List ℤ → ℤ → ℕ → Stability
steps limit e a g zero = step limit (get_or a 0 (pos 0)) g 0
steps limit e a g (suc k) =
    and_then (step limit (get_or a (suc k) (pos 0)) g (suc k))
    (λ h. cond (goes_on e (next_coefficients a (suc k))) (steps limit e (map wrap32 (next_coefficients a (suc k))) h k) (Err (Overflow (suc k))))

-- the first n numbers of a list, added up
unfoldable pub total : List ℤ → ℕ → ℤ
total a zero = pos 0
total a (suc n) = total a n +ℤ get_or a n (pos 0)

-- the whole test of coefficients a (Q12)
unfoldable pub stability_by : ℕ → ℤ → List ℤ → Stability
stability_by limit e a =
    cond (le_z (pos 4096) (total a (length a))) (Err Sum)
    (steps limit e (map (λ x. x *ℤ pos (2 ^ 12)) a) (pos (2 ^ 30)) (length a - 1))

-- the test with RFC 6716's limit, under an edition
unfoldable pub stability : ℤ → List ℤ → Stability
stability e a = stability_by a_limit e a

-- the inverse gain as a number, 0 if there is none
unfoldable pub inverse_gain : Stability → ℤ
inverse_gain (Ok g) = g
inverse_gain (Err why) = pos 0

-- row 13: an order d not 1 to 16, or a slice of n numbers shorter than it
abbrev pub order_refused : ℕ → ℕ → Bool
order_refused n d = ltb d 1 || ltb 16 d || ltb n d

-- why the test of the first d of n coefficients under an edition is refused: row 13, then row 22
unfoldable pub test_refusal : ℕ → ℕ → ℤ → Judged
test_refusal n d e = first_of ((order_refused n d gives Order) ∷ (not (is_edition e) gives Edition) ∷ [])

-- the stability test as a call under an edition
unfoldable pub tested_under : List ℤ → ℕ → ℤ → Result Stability Refusal
tested_under a d e = answered (test_refusal (length a) d e) (stability e (take d a))

-- where no edition is named
abbrev pub tested : List ℤ → ℕ → Result Stability Refusal
tested a d = tested_under a d newer
