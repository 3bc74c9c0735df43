-- Of more coefficients than its order a filter reads the first alone.
use Rattle.std.proofs.Common.{◌≡◌, ℕ, zero, suc, ◌≤◌, List, length, take, ℤ, pos, refl, arith, length-take-le}
use lib.Seq.{get_or-take}
use Rattle.sigproc.specs.Analysis.{products, residual}
use Rattle.sigproc.specs.Synthesis.{prediction}

products_first : (x a : List ℤ) (i d j : ℕ) → j ≤ d → products x (take d a) i j ≡ products x a i j
unfolding products
products_first x a i d zero h = refl
products_first x a i d (suc j) h = rw (products_first x a i d j (omega arith), get_or-take d a j (pos 0) h) refl

pub residual_first : (x a : List ℤ) (d i : ℕ) → d ≤ length a → residual x (take d a) (length (take d a)) i ≡ residual x a d i
unfolding residual
residual_first x a d i h = rw (length-take-le d a h, products_first x a i d d (omega arith)) refl

prediction_front : (s a : List ℤ) (d at m j : ℕ) → j ≤ m → prediction s (take m a) d at j ≡ prediction s a d at j
unfolding prediction
prediction_front s a d at m zero h = refl
prediction_front s a d at m (suc j) h = rw (prediction_front s a d at m j (omega arith), get_or-take m a j (pos 0) h) refl

pub prediction_first : (s a : List ℤ) (d at : ℕ) → d ≤ length a → prediction s (take d a) (length (take d a)) at (length (take d a)) ≡ prediction s a d at d
prediction_first s a d at h = rw (length-take-le d a h) (prediction_front s a d at d d (omega arith))
