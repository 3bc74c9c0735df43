-- Division that rounds down, and its remainder; equal remainders are kept by sums and products.
use Prim.Native.Nat.{ℕ, suc, ◌+◌, ◌-◌, ◌*◌, ◌/◌, ◌%◌, ◌<◌}
use mathlib.Core.Path.{◌≡◌, refl, sym, ap, ◌∙◌}
use mathlib.Core.Bool.{Bool, true, false}
use native.Mathlib.Omega.{arith}
use native.Mathlib.Nat.{mod-lt, mod-eq_of_lt, mod-eq-sub-mod, add-mod_right, mod-add-div', suc-mul}
use borrow.Author.Tests.{lt-ltb, ltb-true, ltb-false}
use lib.Dec.{ltb}
use lib.IntN.{ℤ, pos, negsuc, neg_ℤ, sub_ℕ, ◌+ℤ◌, ◌-ℤ◌, ◌*ℤ◌, +ℤ_assoc, +ℤ_idr, zero-*ℤ, suc_ℤ-*ℤ, pred_ℤ-*ℤ, -ℤ-+ℤ_cancel}
use Rattle.word.specs.Int.{mod_ℤ, floor_div}
use Rattle.word.proofs.Ring.{by-steps, +ℤ_right_comm, *ℤ_add_r, *ℤ_right_comm}

pub mod_ℤ_lt : (z : ℤ) (m : ℕ) → 0 < m → mod_ℤ z m < m
mod_ℤ_lt (pos n) m h = mod-lt n h
mod_ℤ_lt (negsuc n) m h = let k = mod-lt n h in omega arith

-- one m more
add_m : (z : ℤ) (m : ℕ) → 0 < m → mod_ℤ (z +ℤ pos m) m ≡ mod_ℤ z m
add_m (pos n) m h = add-mod_right n m
add_m (negsuc n) m h = go (ltb m (suc n)) refl
  where
    go : (b : Bool) → ltb m (suc n) ≡ b → mod_ℤ (sub_ℕ m (suc n)) m ≡ m - suc (n % m)
    go true e =
        let k = ltb-true m (suc n) e in
        let l : suc n - suc m ≡ n - m = omega arith in
        rw (e, l, ← mod-eq-sub-mod {n = n} {m = m} (omega arith)) refl
    go false e =
        let k = ltb-false m (suc n) e in
        rw (e, mod-eq_of_lt {n = m - suc n} {m = m} (omega arith), mod-eq_of_lt {n = n} {m = m} (omega arith)) refl

pub add_multiple : (z j : ℤ) (m : ℕ) → 0 < m → mod_ℤ (z +ℤ j *ℤ pos m) m ≡ mod_ℤ z m
add_multiple z j m h =
    by-steps (λ k. mod_ℤ (z +ℤ k *ℤ pos m) m ≡ mod_ℤ z m) (rw (zero-*ℤ (pos m), +ℤ_idr z) refl)
    (λ k e. rw (suc_ℤ-*ℤ k (pos m), ← +ℤ_assoc z (k *ℤ pos m) (pos m), add_m (z +ℤ k *ℤ pos m) m h) e)
    (λ k e. rw (pred_ℤ-*ℤ k (pos m), ← +ℤ_assoc z (k *ℤ pos m) (neg_ℤ (pos m)))
    (sym (add_m (z +ℤ k *ℤ pos m -ℤ pos m) m h) ∙ ap (λ x. mod_ℤ x m) (-ℤ-+ℤ_cancel (z +ℤ k *ℤ pos m) (pos m)) ∙ e)) j

-- z is its remainder and its quotient's multiple
pub div-mod : (z : ℤ) (m : ℕ) → 0 < m → z ≡ pos (mod_ℤ z m) +ℤ floor_div z m *ℤ pos m
div-mod (pos n) m h = ap pos (sym (mod-add-div' n m))
div-mod (negsuc n) m h =
    let k = mod-lt n h in
    let d = mod-add-div' n m in
    let e : suc (n / m) * m ≡ suc (n / m * m + (m - 1)) = omega (arith, suc-mul (n / m) m) in
    rw (e, lt-ltb (m - suc (n % m)) (suc (n / m * m + (m - 1))) (omega arith)) (ap negsuc (omega arith))

-- what a sum and a product keep of a remainder
pub mod_add_l : (a b : ℤ) (m : ℕ) → 0 < m → mod_ℤ (a +ℤ b) m ≡ mod_ℤ (pos (mod_ℤ a m) +ℤ b) m
mod_add_l a b m h =
    ap (λ x. mod_ℤ (x +ℤ b) m) (div-mod a m h) ∙ ap (λ x. mod_ℤ x m) (+ℤ_right_comm (pos (mod_ℤ a m)) (floor_div a m *ℤ pos m) b)
    ∙ add_multiple (pos (mod_ℤ a m) +ℤ b) (floor_div a m) m h

pub mod_mul_l : (a b : ℤ) (m : ℕ) → 0 < m → mod_ℤ (a *ℤ b) m ≡ mod_ℤ (pos (mod_ℤ a m) *ℤ b) m
mod_mul_l a b m h =
    ap (λ x. mod_ℤ (x *ℤ b) m) (div-mod a m h)
    ∙ ap (λ x. mod_ℤ x m) (*ℤ_add_r (pos (mod_ℤ a m)) (floor_div a m *ℤ pos m) b ∙ ap (λ x. pos (mod_ℤ a m) *ℤ b +ℤ x) (*ℤ_right_comm (floor_div a m) (pos m) b))
    ∙ add_multiple (pos (mod_ℤ a m) *ℤ b) (floor_div a m *ℤ b) m h
