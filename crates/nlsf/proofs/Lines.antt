-- The table and the cosines of lines.
use Prim.Native.Nat.{ℕ, zero, suc, ◌-◌, ◌*◌, ◌<◌, ◌≤◌, zero-le}
use mathlib.Core.Path.{◌≡◌, refl, sym, ap, ◌∙◌}
use mathlib.Core.Bool.{Bool, true, false, cond, ◌&&◌, ◌||◌}
use mathlib.Core.List.{List, [], ◌∷◌}
use native.Mathlib.Nat.{mul-le-mul, le_antisymm, le_of_suc-le-suc, not-suc-le-zero}
use native.Mathlib.Numerals.{add-one}
use native.Mathlib.Omega.{arith}
use borrow.Author.Tests.{leb-true, ltb-true, ltb-false}
use lib.Dec.{leb, ltb}
use lib.IntN.{ℤ, pos, negsuc, nat_abs, neg_ℤ, ◌+ℤ◌, ◌-ℤ◌, ◌*ℤ◌}
use lib.ListN.{get_or, length, take}
use lib.Signed.{lt_z, mag}
use Rattle.std.specs.List.{list_any}
use Rattle.std.proofs.lemmas.List.Folds.{list_any_more}
use mir.Syntax.{w16, w32}
use mir.Val.{SFits, to_z, of_z}
use mir.Facts.{to_z-of_z}
use Rattle.word.proofs.Parts.{eq_parts, sub_parts_ℤ}
use Rattle.word.proofs.Rows.{neither}
use Rattle.word.specs.Int.{wrap32}
use Rattle.word.specs.Size.{Bounded}
use Rattle.word.proofs.Rows.{both}
use Rattle.word.proofs.Sizes.{abs-add, abs-sub, abs-mul, abs_neg, abs-fits}
use Rattle.word.proofs.Words.{wrap_id, wrap_add_l, wrap_add_r, wrap_mul_l}
use Rattle.nlsf.specs.Table.{lsf_cos_half, lsf_cos}
use Rattle.nlsf.specs.Lines.{negative_line, ordering16, ordering10}

-- a test of every number of a list
within : ℕ → List ℤ → Bool
within M [] = true
within M (x ∷ xs) = leb (nat_abs x) M && within M xs

within_bounded : (M : ℕ) (xs : List ℤ) → within M xs ≡ true → Bounded M xs
unfolding within
within_bounded M [] e k = zero-le
within_bounded M (x ∷ xs) e zero = leb-true (nat_abs x) M (both (leb (nat_abs x) M) (within M xs) e).0
within_bounded M (x ∷ xs) e (suc k) = within_bounded M xs (both (leb (nat_abs x) M) (within M xs) e).1 k

pub half_le : (i : ℕ) → nat_abs (get_or lsf_cos_half i (pos 0)) ≤ 8192
unfolding lsf_cos_half within
half_le i = within_bounded 8192 lsf_cos_half refl i

-- an entry, and minus an entry, of 16 bits
pub entry_kept : (x : ℤ) → nat_abs x ≤ 8192 → to_z w16 (of_z w16 x) ≡ x
entry_kept x h = to_z-of_z {w = w16} (abs-fits x (omega arith))

minus : (x : ℤ) → (pos 0 -ℤ x) ≡ neg_ℤ x
minus (pos zero) = refl
minus (pos (suc n)) = eq_parts (pos 0 -ℤ pos (suc n)) (negsuc n) (omega (arith, sub_parts_ℤ (pos 0) (pos (suc n))))
minus (negsuc n) = eq_parts (pos 0 -ℤ negsuc n) (pos (suc n)) (omega (arith, sub_parts_ℤ (pos 0) (negsuc n)))

pub minus_fits : (x : ℤ) → nat_abs x ≤ 8192 → SFits w16 (pos 0 -ℤ to_z w16 (of_z w16 x))
minus_fits x h = rw (entry_kept x h, minus x) (abs-fits (neg_ℤ x) (omega (arith, abs_neg x)))

pub minus_kept : (x : ℤ) → nat_abs x ≤ 8192 → to_z w16 (of_z w16 (pos 0 -ℤ to_z w16 (of_z w16 x))) ≡ neg_ℤ x
minus_kept x h = rw (entry_kept x h, minus x) (to_z-of_z {w = w16} (abs-fits (neg_ℤ x) (omega (arith, abs_neg x))))

pub lsf_cos_le : (i : ℕ) → nat_abs (lsf_cos i) ≤ 8192
unfolding lsf_cos
lsf_cos_le i = go (ltb 64 i)
  where
    go : (b : Bool) → nat_abs (cond b (neg_ℤ (get_or lsf_cos_half (128 - i) (pos 0))) (get_or lsf_cos_half i (pos 0))) ≤ 8192
    go true = rw (abs_neg (get_or lsf_cos_half (128 - i) (pos 0))) (half_le (128 - i))
    go false = half_le i

-- an interpolation between two entries stays in 32 bits
pub interpolated : (x y : ℤ) (r : ℕ) → nat_abs x ≤ 8192 → nat_abs y ≤ 8192 → r < 256 → wrap32 (wrap32 (x *ℤ pos 256) +ℤ wrap32 (wrap32 (y -ℤ x) *ℤ pos r)) ≡ x *ℤ pos 256 +ℤ (y -ℤ x) *ℤ pos r
interpolated x y r hx hy hr =
    let a = x *ℤ pos 256 in
    let d = (y -ℤ x) *ℤ pos r in
    let h : nat_abs (y -ℤ x) ≤ 16384 = omega (arith, abs-sub y x) in
    let k : r ≤ 256 = omega arith in
    let m : nat_abs (y -ℤ x) * r ≤ 16384 * 256 = mul-le-mul h k in
    rw (wrap_add_l w32 a (wrap32 (wrap32 (y -ℤ x) *ℤ pos r)), wrap_mul_l w32 (y -ℤ x) (pos r), wrap_add_r w32 a d)
    (wrap_id (abs-fits (a +ℤ d) (omega (arith, abs-add a d, abs-mul x (pos 256), abs-mul (y -ℤ x) (pos r)))))

-- the size of a number that is not negative
pub nonneg_lt : (z : ℤ) (H : ℕ) → lt_z z (pos 0) ≡ false → mag z < H → nat_abs z < H
nonneg_lt (pos n) H e h = h
nonneg_lt (negsuc n) H e h = let z : ◌≡◌ {A = ℕ} 0 1 = cc in absurd (omega arith)

-- a test of the first lines, one after another
pub any_front : (lines : List ℤ) (d : ℕ) → d ≤ length lines → list_any (λ x. lt_z x (pos 0)) (take d lines) ≡ negative_line lines d
unfolding negative_line
any_front lines zero h = refl
any_front lines (suc d) h =
    ap (λ (m : ℕ). list_any (λ x. lt_z x (pos 0)) (take m lines)) (sym (add-one d))
    ∙ list_any_more (λ x. lt_z x (pos 0)) lines d (pos 0) h
    ∙ ap (λ (b : Bool). b || lt_z (get_or lines d (pos 0)) (pos 0)) (any_front lines d (omega arith))

pub line_nonneg : (lines : List ℤ) (d k : ℕ) → negative_line lines d ≡ false → k < d → lt_z (get_or lines k (pos 0)) (pos 0) ≡ false
unfolding negative_line
line_nonneg lines zero k e h = absurd (not-suc-le-zero h)
line_nonneg lines (suc d) k e h = go (ltb k d) refl (line_nonneg lines d k t.0)
  where
    t : (negative_line lines d ≡ false) × (lt_z (get_or lines d (pos 0)) (pos 0) ≡ false)
    t = neither (negative_line lines d) (lt_z (get_or lines d (pos 0)) (pos 0)) e

    go : (b : Bool) → ltb k d ≡ b → (k < d → lt_z (get_or lines k (pos 0)) (pos 0) ≡ false) → lt_z (get_or lines k (pos 0)) (pos 0) ≡ false
    go true l ih = ih (ltb-true k d l)
    go false l ih =
        let p : k ≡ d = le_antisymm (le_of_suc-le-suc h) (ltb-false k d l) in
        rw p t.1

pub nonneg_lines : (lines : List ℤ) (d : ℕ) → ((k : ℕ) → k < d → lt_z (get_or lines k (pos 0)) (pos 0) ≡ false) → negative_line lines d ≡ false
unfolding negative_line
nonneg_lines lines zero h = refl
nonneg_lines lines (suc d) h = rw (nonneg_lines lines d (λ k l. h k (omega arith)), h d (omega arith)) refl

-- every place of an ordering is one of 16
below : ℕ → List ℕ → Bool
below M [] = true
below M (x ∷ xs) = ltb x M && below M xs

below_lt : (M : ℕ) (xs : List ℕ) → below M xs ≡ true → 0 < M → (k : ℕ) → get_or xs k 0 < M
unfolding below
below_lt M [] e p k = p
below_lt M (x ∷ xs) e p zero = ltb-true x M (both (ltb x M) (below M xs) e).0
below_lt M (x ∷ xs) e p (suc k) = below_lt M xs (both (ltb x M) (below M xs) e).1 p k

pub place16_lt : (k : ℕ) → get_or ordering16 k 0 < 16
unfolding ordering16 below
place16_lt k = below_lt 16 ordering16 refl (omega arith) k

pub place10_lt : (k : ℕ) → get_or ordering10 k 0 < 16
unfolding ordering10 below
place10_lt k = below_lt 16 ordering10 refl (omega arith) k
