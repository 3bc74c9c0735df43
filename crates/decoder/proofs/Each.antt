-- The test of a list's first elements, each by itself.
use Prim.Native.Nat.{ℕ, zero, suc, ◌≤◌}
use mathlib.Core.Bool.{◌&&◌}
use mathlib.Core.Path.{◌≡◌, refl, sym, ap, ◌∙◌}
use mathlib.Core.List.{List}
use native.Mathlib.Omega.{arith}
use native.Mathlib.Numerals.{add-one}
use lib.IntN.{ℤ, pos}
use lib.ListN.{length, get_or, take}
use Rattle.std.specs.List.{list_all}
use Rattle.std.proofs.lemmas.List.Folds.{list_all_more}
use Rattle.decoder.specs.Ranges.{within, all_within}

pub each_within : (low high : ℤ) (xs : List ℤ) (n : ℕ) → n ≤ length xs → list_all (within low high) (take n xs) ≡ all_within low high xs n
unfolding all_within
each_within low high xs zero h = refl
each_within low high xs (suc n) h =
    ap (λ (m : ℕ). list_all (within low high) (take m xs)) (sym (add-one n))
    ∙ list_all_more (within low high) xs n (pos 0) (omega arith)
    ∙ (λ i. each_within low high xs n (omega arith) i && within low high (get_or xs n (pos 0)))
