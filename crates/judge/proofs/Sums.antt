-- The sum of a subframe's taps.
use Prim.Native.Nat.{ℕ, zero, suc, ◌+◌, ◌*◌, ◌<◌, ◌≤◌}
use mathlib.Core.Path.{◌≡◌, refl, sym, ap, ◌∙◌}
use mathlib.Core.Bool.{Bool, true, ◌&&◌}
use mathlib.Core.List.{List, [], ◌∷◌, map}
use native.Mathlib.Omega.{arith}
use native.Mathlib.Numerals.{add-one}
use borrow.Author.Count.{below_more}
use borrow.Author.Tests.{leb-true}
use lib.Dec.{leb}
use lib.IntN.{ℤ, pos, negsuc, ◌+ℤ◌}
use lib.ListN.{length, get_or, take, drop}
use lib.Seq.{get_or-take, get_or-drop}
use mir.Syntax.{w16}
use mir.Val.{SFits}
use Rattle.std.proofs.Math.Bool.{and-true}
use Rattle.std.proofs.lemmas.Bool.{and_parts}
use Rattle.std.proofs.Math.IntN.{+ℤ_idl}
use Rattle.std.specs.List.{fold, list_all, range_with_len}
use Rattle.std.proofs.lemmas.List.Folds.{list_all-append}
use Rattle.std.proofs.lemmas.List.FromFn.{map-range_with_len_more}
use Rattle.word.proofs.Totals.{fold_by_place}
use Rattle.word.proofs.Lists.{length_part}
use Rattle.decoder.specs.Ranges.{within}
use Rattle.judge.specs.Taps.{tap_sum, taps_fit}

-- added up one by one
pub by_fold : (taps : List ℤ) (k : ℕ) → 5 * k + 5 ≤ length taps → fold ◌+ℤ◌ (pos 0) (take 5 (drop (5 * k) taps)) ≡ tap_sum taps k
unfolding tap_sum
by_fold taps k h =
    let at : (i : ℕ) → i < 5 → get_or (take 5 (drop (5 * k) taps)) i (pos 0) ≡ get_or taps (5 * k + i) (pos 0) =
    λ i l. get_or-take 5 (drop (5 * k) taps) i (pos 0) l ∙ get_or-drop (5 * k) taps i (pos 0) in
    let first : 5 * k + 0 ≡ 5 * k = omega arith in
    fold_by_place ◌+ℤ◌ total (take 5 (drop (5 * k) taps)) (pos 0) (λ n l. ap (λ (x : ℤ). total n +ℤ x) (sym (at n (omega (arith, l, length_part taps (5 * k) 5 h)))))
    ∙ ap total (length_part taps (5 * k) 5 h) ∙ ap (λ (z : ℤ). z +ℤ get_or taps (5 * k + 1) (pos 0) +ℤ get_or taps (5 * k + 2) (pos 0) +ℤ get_or taps (5 * k + 3) (pos 0) +ℤ get_or taps (5 * k + 4) (pos 0)) (+ℤ_idl (get_or taps (5 * k + 0) (pos 0)) ∙ ap (λ (i : ℕ). get_or taps i (pos 0)) first)
  where
    -- the sum of the first n of them
    total : ℕ → ℤ
    total zero = pos 0
    total (suc n) = total n +ℤ get_or taps (5 * k + n) (pos 0)

in_16 : (z : ℤ) → within (negsuc 32767) (pos 32767) z ≡ true → SFits w16 z
unfolding within
in_16 (pos n) e = record { sfits = omega (arith, leb-true n 32767 e) }
in_16 (negsuc n) e = let b = and_parts (leb n 32767) true e in record { sfits = omega (arith, leb-true n 32767 b.0) }

-- each of the n sums fits 16 bits
pub each_fits : (taps : List ℤ) (n : ℕ) → taps_fit taps n ≡ true → (k : ℕ) → k < n → SFits w16 (tap_sum taps k)
unfolding taps_fit
each_fits taps zero e k l = absurd (omega arith)
each_fits taps (suc n) e k l =
    let b = and_parts (taps_fit taps n) (within (negsuc 32767) (pos 32767) (tap_sum taps n)) e in
    below_more (λ j. SFits w16 (tap_sum taps j)) n (each_fits taps n b.0) (in_16 (tap_sum taps n) b.1) k (omega arith)

abbrev pub in_word : ℤ → Bool
in_word = within (negsuc 32767) (pos 32767)

-- the sums one by one
pub each_sum : (taps : List ℤ) (n : ℕ) → list_all in_word (map (tap_sum taps) (range_with_len 0 n)) ≡ taps_fit taps n
unfolding taps_fit
each_sum taps zero = refl
each_sum taps (suc n) =
    let f = tap_sum taps in
    ap (λ (m : ℕ). list_all in_word (map f (range_with_len 0 m))) (sym (add-one n))
    ∙ ap (list_all in_word) (map-range_with_len_more f 0 n n (omega arith))
    ∙ list_all-append in_word (map f (range_with_len 0 n)) (f n ∷ [])
    ∙ (λ i. each_sum taps n i && and-true (in_word (f n)) i)
