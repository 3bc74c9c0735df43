-- The excitation moved along by a subframe.
use Prim.Native.Nat.{ℕ, zero, suc, ◌+◌, ◌-◌, ◌*◌, ◌<◌, ◌≤◌}
use mathlib.Core.Path.{◌≡◌, refl, sym, ap, ◌∙◌}
use mathlib.Core.List.{List, ◌++◌}
use native.Mathlib.Omega.{arith}
use native.Mathlib.Nat.{zero-add, suc-mul, mul-le-mul, mul-le-mul_right}
use lib.ListN.{length, take, drop, length-drop}
use lib.Seq.{take-append_seam, drop-append-add, drop-drop, length-take-le, get_or-take}
use lib.IntN.{ℤ, pos}
use Rattle.std.specs.List.{fold}
use Rattle.sigproc.specs.Place.{put_at}
use Rattle.nlsf.specs.Fit.{largest_by}
use Rattle.nlsf.proofs.Rounds.{largest_place}
use Rattle.word.proofs.Totals.{fold_by_place}
use Rattle.cng.specs.Noise.{loudest, next_gain, smoothed_gain, moved_in}

-- the products of a subframe's length
pub room : (k n l : ℕ) → k < n → n ≤ 4 → l ≤ 80 → (k * l + l ≤ n * l) × (n * l ≤ 320) × (l + (n - 1) * l ≡ n * l)
room k n l h hn hl =
    let a : suc k * l ≤ n * l = mul-le-mul_right l h in
    let b : n * l ≤ 320 = mul-le-mul hn hl in
    let e : suc (n - 1) ≡ n = omega arith in
    let c : suc (n - 1) * l ≡ n * l = ap (λ (m : ℕ). m * l) e in
    (omega (arith, suc-mul k l), b, omega (arith, suc-mul (n - 1) l))

-- one list stored at the front, another behind it
front : (z a b : List ℤ) → put_at (put_at z 0 a) (length a) b ≡ a ++ b ++ drop (length a + length b) z
unfolding put_at
front z a b =
    let d : List ℤ = drop (length a) z in
    rw (zero-add, take-append_seam a d, drop-append-add a d (length b), drop-drop (length b) (length a) z)

pub moved : (held exc : List ℤ) (l n k : ℕ) → length held ≡ 320 → length exc ≡ 320 → k < n → n ≤ 4 → l ≤ 80
    → put_at (put_at held 0 (take l (drop (k * l) exc))) l (take ((n - 1) * l) held) ≡ moved_in l n exc held k
unfolding moved_in
moved held exc l n k hh he hk hn hl =
    let r = room k n l hk hn hl in
    let a = take l (drop (k * l) exc) in
    let b = take ((n - 1) * l) held in
    let la : length a ≡ l = length-take-le l (drop (k * l) exc) (rw (length-drop) (omega arith)) in
    let lb : length b ≡ (n - 1) * l = length-take-le ((n - 1) * l) held (omega arith) in
    let e : length a + length b ≡ n * l = omega arith in
    ap (λ (i : ℕ). put_at (put_at held 0 a) i b) (sym la) ∙ front held a b ∙ ap (λ (i : ℕ). a ++ b ++ drop i held) e

-- the loudest of n gains is one of them
pub place_lt : (gains : List ℤ) (n : ℕ) → 0 < n → (loudest gains n).place < n
place_lt gains n h = omega (arith, largest_place (λ g. g) gains n)

-- only the first gains count
pub loudest_front : (gains : List ℤ) (m n : ℕ) → n ≤ m → loudest (take m gains) n ≡ loudest gains n
unfolding largest_by
loudest_front gains m zero h = refl
loudest_front gains m (suc n) h =
    rw (loudest_front gains m n (omega arith), get_or-take m gains n (pos 0) h) refl

pub gain_front : (held : ℤ) (gains : List ℤ) (m n : ℕ) → n ≤ m → smoothed_gain held (take m gains) n ≡ smoothed_gain held gains n
unfolding smoothed_gain
gain_front held gains m zero h = refl
gain_front held gains m (suc n) h =
    rw (gain_front held gains m n (omega arith), get_or-take m gains n (pos 0) h) refl

pub gain_by_fold : (held : ℤ) (gains : List ℤ) → fold next_gain held gains ≡ smoothed_gain held gains (length gains)
unfolding smoothed_gain
gain_by_fold held gains = fold_by_place next_gain (smoothed_gain held gains) gains (pos 0) (λ n h. refl)
