-- A length and a word that are the same number or not; the products of a shape.
use Prim.Native.Nat.{ℕ, ◌*◌, ◌^◌, ◌<◌, ◌≤◌}
use mathlib.Core.Path.{◌≡◌, refl, sym, ap, ◌∙◌}
use mathlib.Core.Bool.{Bool, true, false, cond}
use native.Mathlib.Omega.{arith}
use native.Mathlib.Nat.{mul-le-mul}
use borrow.Author.Tests.{eq-eqb, ne_eqb, ltb-true, ltb-false}
use lib.Dec.{ltb}
use lib.IntN.{ℤ, pos, negsuc}
use lib.Signed.{lt_z}
use mir.Syntax.{w16, w32}
use mir.Val.{to_z, of_z, SFits}
use Rattle.word.specs.Int.{eq_ℤ, max_ℤ}
use Rattle.word.proofs.Words.{eq_words}
use Rattle.shape.specs.Shape.{rate_of}
use Rattle.shape.specs.declared.FrameShape.{FrameShape}
use Rattle.shape.proofs.Shapes.{rate_back}

pub same_number : (n : ℕ) (z : ℤ) → n < 2 ^ 31 → SFits w32 z → n ≡ of_z w32 z → eq_ℤ (pos n) z ≡ true
same_number n z h f e = sym (eq_words w32 (pos n) z (record { sfits = h }) f) ∙ eq-eqb n (of_z w32 z) e

pub other-number : (n : ℕ) (z : ℤ) → n < 2 ^ 31 → SFits w32 z → (n ≡ of_z w32 z → ⊥) → eq_ℤ (pos n) z ≡ false
other-number n z h f e = sym (eq_words w32 (pos n) z (record { sfits = h }) f) ∙ ne_eqb n (of_z w32 z) e

-- a length as a callee tells it of its number of the rate, and of the rate
pub rate_times : (m : ℕ) {n : ℕ} {z khz : ℤ} → z ≡ khz → n ≡ m * rate_of z → n ≡ m * rate_of khz
rate_times m e h = h ∙ ap (λ (x : ℤ). m * rate_of x) e

-- and of a frame's rate
pub frame_times : (f : FrameShape) (m : ℕ) {n : ℕ} → n ≡ m * rate_of (to_z w32 (of_z w32 f.fs_khz)) → n ≡ m * rate_of f.fs_khz
frame_times f m h = rate_times m (rate_back f.fs_khz f.rate) h

-- the samples of a frame
pub frame_most : (r n : ℕ) → r ≤ 16 → n ≤ 4 → 5 * r * n ≤ 320
frame_most r n h k = let a : 5 * r ≤ 80 = omega arith in omega (arith, mul-le-mul a k)

-- the larger of a number and 1
pub max_one : (z : ℤ) → max_ℤ z (pos 1) ≡ pos 0 → ⊥
unfolding max_ℤ
max_one (pos n) e = go (ltb 1 n) refl e
  where
    go : (b : Bool) → ltb 1 n ≡ b → cond b (pos n) (pos 1) ≡ pos 0 → ⊥
    go true h e = let z : n ≡ 0 = cc in omega (arith, ltb-true 1 n h)
    go false h e = let z : ◌≡◌ {A = ℕ} 0 1 = cc in omega arith
max_one (negsuc n) e = let z : ◌≡◌ {A = ℕ} 0 1 = cc in omega arith

-- a sum that is not scaled
pub middle-fits : (z : ℤ) → lt_z z (pos 11469) ≡ false → lt_z (pos 15565) z ≡ false → SFits w16 z
middle-fits (pos n) l u = record { sfits = omega (arith, ltb-false 15565 n u) }
middle-fits (negsuc n) l u = let z : ◌≡◌ {A = ℕ} 0 1 = cc in absurd (omega arith)
