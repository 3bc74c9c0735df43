-- A range from 0 on, by a test of each end.
use Prim.Native.Nat.{ℕ, suc}
use mathlib.Core.Path.{◌≡◌, refl, sym, ◌∙◌}
use mathlib.Core.Bool.{Bool, true, false, false≢true}
use native.Mathlib.Omega.{arith}
use native.Mathlib.Nat.{not-suc-le-zero}
use borrow.Author.Tests.{le-leb, ltb-true}
use lib.Dec.{leb-suc-suc}
use lib.IntN.{ℤ, pos, negsuc}
use lib.Signed.{lt_z}
use Rattle.decoder.specs.Ranges.{within}

pub below : (k : ℕ) (z : ℤ) → lt_z z (pos 0) ≡ true → false ≡ within (pos 0) (pos k) z
unfolding within
below k (pos n) e = absurd (not-suc-le-zero (ltb-true n 0 e))
below k (negsuc n) e = refl

upper : (k : ℕ) (z : ℤ) → lt_z z (pos 0) ≡ false → within (pos 0) (pos k) z ≡ lt_z z (pos (suc k))
unfolding within
upper k (pos n) e = rw (le-leb 0 n (omega arith)) (sym (leb-suc-suc n k))
upper k (negsuc n) e = absurd (false≢true (sym e))

pub at_most : (k : ℕ) (z : ℤ) {t : Bool} → lt_z z (pos 0) ≡ false → lt_z z (pos (suc k)) ≡ t → t ≡ within (pos 0) (pos k) z
at_most k z l u = sym (upper k z l ∙ u)
