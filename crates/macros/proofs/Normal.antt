-- A number other than 0, shifted up by its headroom, has its highest bit at place 30.
use Prim.Native.Nat.{ℕ, zero, suc, ◌+◌, ◌-◌, ◌*◌, ◌/◌, ◌%◌, ◌^◌, ◌<◌, ◌≤◌, zero-le}
use mathlib.Core.Path.{◌≡◌, refl, sym, ap, ◌∙◌, subst}
use native.Mathlib.Omega.{arith}
use native.Mathlib.Nat.{mod-eq_of_lt, mul-le-mul_right, div-le_self}
use borrow.Author.Tests.{le-ltb}
use lib.Count.{count_leading_zeros, leading_le, leading_top}
use lib.Pow.{shl_lt, pow-add}
use lib.IntN.{ℤ, pos, negsuc, nat_abs, neg_ℤ, pred_ℤ, -ℤ_one, pos-ne-negsuc}
use lib.Signed.{quot_z}
use mir.Syntax.{w32}
use mir.Val.{SFits, of_z}
use Rattle.word.specs.Int.{mod_ℤ, floor_div, wrap32}
use Rattle.macros.specs.Fixed.{clz32}
use Rattle.macros.specs.Quotient.{headroom, shift_up, normal}
use Rattle.word.proofs.Words.{mod-wrap, wrap_id}

pub clz_le : (z : ℤ) → clz32 z ≤ 32
unfolding clz32
clz_le z = leading_le 32 (mod_ℤ z (2 ^ 32))

pred_fits : (n : ℕ) → n ≤ 32 → SFits w32 (pred_ℤ (pos n))
pred_fits zero h = record { sfits = omega arith }
pred_fits (suc n) h = record { sfits = omega arith }

pub headroom-fits : (b : ℤ) → SFits w32 (headroom b)
unfolding headroom
headroom-fits b =
    let n = clz32 (wrap32 (pos (nat_abs b))) in
    rw (-ℤ_one (pos n)) (pred_fits n (clz_le (wrap32 (pos (nat_abs b)))))

clz_abs : (n : ℕ) → n ≤ 2 ^ 31 → clz32 (wrap32 (pos n)) ≡ count_leading_zeros 32 n
unfolding clz32
clz_abs n h = ap (count_leading_zeros 32) (mod-wrap w32 (pos n) ∙ mod-eq_of_lt (omega arith))

-- n of l + 1 leading zeros in 32 bits, shifted up by l
sized : (n l : ℕ) → 0 < n → n ≤ 2 ^ 31 → count_leading_zeros 32 n ≡ suc l → (l < 32) × (2 ^ 30 ≤ n * 2 ^ l) × (n * 2 ^ l < 2 ^ 31)
sized n l p h e =
    let t = leading_top 32 n p (omega arith) in
    let s = e in
    let a : t.0 + l ≡ 30 = omega (arith, t.1) in
    let b : suc t.0 + l ≡ 31 = omega (arith, t.1) in (
      omega (arith, t.1),
      subst (λ (k : ℕ). 2 ^ k ≤ n * 2 ^ l) a (rw (pow-add 2 t.0 l) (mul-le-mul_right (2 ^ l) t.2)),
      subst (λ (k : ℕ). n * 2 ^ l < 2 ^ k) b (shl_lt (suc t.0) l t.3),
    )

headroom-is : (b : ℤ) (l : ℕ) → nat_abs b ≤ 2 ^ 31 → count_leading_zeros 32 (nat_abs b) ≡ l → headroom b ≡ pred_ℤ (pos l)
unfolding headroom
headroom-is b l h e = rw (clz_abs (nat_abs b) h, e) (-ℤ_one (pos l))

none : (n : ℕ) → 0 < n → n < 2 ^ 31 → count_leading_zeros 32 n ≡ 0 → ⊥
none n p h e =
    let t = leading_top 32 n p (omega arith) in
    let s = e in
    let a : t.0 ≡ 31 = omega (arith, t.1) in
    let b : 2 ^ 31 ≤ n = subst (λ (k : ℕ). 2 ^ k ≤ n) a t.2 in
    omega arith

up_pos : (n : ℕ) → 0 < n → n < 2 ^ 31 → (x : ℕ) × (normal (pos n) ≡ pos x) × (2 ^ 30 ≤ x)
unfolding normal shift_up
up_pos n p h = go (count_leading_zeros 32 n) refl
  where
    go : (l : ℕ) → count_leading_zeros 32 n ≡ l → (x : ℕ) × (normal (pos n) ≡ pos x) × (2 ^ 30 ≤ x)
    go zero e = absurd (none n p h e)
    go (suc l) e =
        let s = sized n l p (omega arith) e in
        let m : l % 32 ≡ l = omega (arith, s.0) in (
          n * 2 ^ l,
          rw (headroom-is (pos n) (suc l) (omega arith) e, le-ltb l 0 zero-le, m) (wrap_id (record { sfits = s.2 })),
          s.1,
        )

neg_is : (x : ℕ) → 0 < x → neg_ℤ (pos x) ≡ negsuc (x - 1)
neg_is zero h = absurd (omega arith)
neg_is (suc x) h = ap negsuc (omega arith)

up_neg : (n : ℕ) → n < 2 ^ 31 → (y : ℕ) × (normal (negsuc n) ≡ negsuc y)
unfolding normal shift_up
up_neg n h = go (count_leading_zeros 32 (suc n)) refl
  where
    go : (l : ℕ) → count_leading_zeros 32 (suc n) ≡ l → (y : ℕ) × (normal (negsuc n) ≡ negsuc y)
    go zero e = (n / 2, rw (headroom-is (negsuc n) zero (omega arith) e) refl)
    go (suc l) e =
        let s = sized (suc n) l (omega arith) (omega arith) e in
        let m : l % 32 ≡ l = omega (arith, s.0) in (
          suc n * 2 ^ l - 1,
          rw (headroom-is (negsuc n) (suc l) (omega arith) e, le-ltb l 0 zero-le, m, neg_is (suc n * 2 ^ l) (omega (arith, s.1)))
              (wrap_id (record { sfits = omega (arith, s.2) })),
        )

pub normal_big : (b : ℤ) → SFits w32 b → (b ≡ pos 0 → ⊥) → floor_div (normal b) (2 ^ 16) ≡ pos 0 → ⊥
normal_big (pos zero) h k e = k refl
normal_big (pos (suc n)) h k e =
    let u = up_pos (suc n) (omega arith) h.sfits in
    let d : u.0 / 2 ^ 16 ≡ 0 = ap nat_abs (rw u.1 at e) in
    omega (arith, u.2)
normal_big (negsuc n) h k e =
    let u = up_neg n h.sfits in
    pos-ne-negsuc 0 (u.0 / 2 ^ 16) (sym (rw u.1 at e))

neg_fits : (n a : ℕ) → n ≤ suc a → a < 2 ^ 31 → SFits w32 (neg_ℤ (pos n))
neg_fits zero a h k = record { sfits = omega arith }
neg_fits (suc n) a h k = record { sfits = omega arith }

-- a quotient fits if the divisor is positive
pub quot_fits_pos : (a : ℤ) (n : ℕ) → SFits w32 a → SFits w32 (quot_z a (pos n))
quot_fits_pos (pos a) n h = record { sfits = omega (arith, div-le_self a n, h.sfits) }
quot_fits_pos (negsuc a) n h = neg_fits (suc a / n) a (div-le_self (suc a) n) h.sfits

-- or if the dividend is not the least number
pub quot_fits : (a b : ℤ) → nat_abs a < 2 ^ 31 → SFits w32 (quot_z a b)
quot_fits (pos a) (pos b) h = record { sfits = omega (arith, div-le_self a b) }
quot_fits (pos a) (negsuc b) h = neg_fits (a / suc b) a (omega (arith, div-le_self a (suc b))) h
quot_fits (negsuc a) (pos b) h = neg_fits (suc a / b) a (div-le_self (suc a) b) (omega arith)
quot_fits (negsuc a) (negsuc b) h = record { sfits = omega (arith, div-le_self (suc a) (suc b)) }
