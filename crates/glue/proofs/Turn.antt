-- A turn of the ramp in place.
use Prim.Native.Nat.{ℕ, suc, ◌<◌}
use mathlib.Core.Path.{◌≡◌, refl, sym, ap, ◌∙◌}
use mathlib.Core.Bool.{true, false, cond}
use mathlib.Core.List.{List, ◌∷◌, ◌++◌}
use native.Mathlib.Nat.{le_refl}
use lib.IntN.{ℤ, pos, ◌+ℤ◌}
use lib.ListN.{length, get_or, set, take, drop}
use lib.Seq.{drop-cons, set_split, take-suc-set, drop-set-lt, append_snoc}
use lib.Signed.{lt_z}
use Rattle.word.specs.Int.{wrap16, wrap32}
use Rattle.macros.specs.Fixed.{smulwb}
use Rattle.glue.specs.Glue.{ramped}

module _ (xs : List ℤ) (i : ℕ) (g s v : ℤ) (h : i < length xs) (e : v ≡ wrap16 (smulwb g (get_or xs i (pos 0)))) where
  turned : take i xs ++ ramped g s (drop i xs) ≡ take i xs ++ v ∷ cond (lt_z (pos 65536) (wrap32 (g +ℤ s))) (drop (suc i) xs) (ramped (wrap32 (g +ℤ s)) s (drop (suc i) xs))
  unfolding ramped
  turned = ap (λ (l : List ℤ). take i xs ++ ramped g s l) (drop-cons xs i (pos 0) h) ∙ rw e refl

  -- it goes on
  pub on : lt_z (pos 65536) (wrap32 (g +ℤ s)) ≡ false → take i xs ++ ramped g s (drop i xs) ≡ take (suc i) (set xs i v) ++ ramped (wrap32 (g +ℤ s)) s (drop (suc i) (set xs i v))
  on t =
      turned
      ∙ rw (t, take-suc-set xs i v h, drop-set-lt (suc i) xs i v (le_refl (suc i))) (sym (append_snoc (take i xs) v _))

  -- the gain is above one
  pub off : lt_z (pos 65536) (wrap32 (g +ℤ s)) ≡ true → take i xs ++ ramped g s (drop i xs) ≡ set xs i v
  off t = turned ∙ rw (t, set_split xs i v h)
