-- Scaled draws: their ranges, and draws that go on from others.
use Prim.Native.Nat.{ℕ, zero, suc, ◌+◌, ◌-◌, ◌*◌, ◌/◌, ◌^◌, ◌≤◌, ◌<◌}
use mathlib.Core.Path.{◌≡◌, refl, ap, ◌∙◌}
use mathlib.Core.Bool.{Bool, true, false}
use mathlib.Core.List.{List, [], ◌++◌}
use native.Mathlib.Omega.{arith}
use native.Mathlib.Nat.{mul-le-mul, mul-le-mul_right, suc-mul}
use borrow.Author.Tests.{ltb-true, ltb-false}
use lib.Dec.{ltb}
use lib.IntN.{ℤ, pos, negsuc, ◌+ℤ◌}
use lib.ListN.{length, get_or, set, drop}
use lib.Signed.{mag}
use mir.Syntax.{Width, w32, w64}
use mir.Val.{SFits, hbits}
use Rattle.word.proofs.Mod.{mod_ℤ_lt}
use Rattle.word.specs.Tabulate.{tabulate}
use Rattle.word.proofs.Lists.{tabulate-more, length-tabulate, get_or-tabulate, beyond}
use Rattle.word.proofs.Fits.{AllFit}
use Rattle.word.proofs.Sizes.{abs-fits}
use Rattle.word.proofs.Range.{mag_add}
use Rattle.word.proofs.Parts.{P, N, add_parts, mag_parts}
use Rattle.macros.specs.Fixed.{rand}
use Rattle.generator.specs.Draws.{drawn, unsigned, draw_at}
use Rattle.generator.specs.Scaled.{scaled, pick, picks}

-- draws that go on from others
pub drawn_add : (x : ℤ) (m n : ℕ) → drawn (drawn x m) n ≡ drawn x (m + n)
unfolding drawn
drawn_add x m zero =
    let e : m ≡ m + 0 = omega arith in
    ap (drawn x) e
drawn_add x m (suc n) =
    let e : suc (m + n) ≡ m + suc n = omega arith in
    ap rand (drawn_add x m n) ∙ ap (drawn x) e

pub unsigned_lt : (x : ℤ) → unsigned x < 2 ^ 32
unsigned_lt x = mod_ℤ_lt x (2 ^ 32) (omega arith)

-- a share of s is at most s - 1
pub share : (u s : ℕ) → u < 2 ^ 32 → u * s / 2 ^ 32 ≤ s - 1
share u zero h = omega arith
share u (suc s) h =
    let a : suc u * suc s ≤ 2 ^ 32 * suc s = mul-le-mul_right (suc s) h in
    omega (arith, a, suc-mul u (suc s))

-- a number between two of w bits has w bits
between : (a z b : ℤ) (H : ℕ) → mag a < H → mag b < H → P a + N z ≤ P z + N a → P z + N b ≤ P b + N z → mag z < H
between a (pos n) b H h k l m = omega (arith, mag_parts b H k, l, m)
between a (negsuc n) b H h k l m = omega (arith, mag_parts a H h, l, m)

pub scaled_fits : {w : Width} (a : ℤ) (s u : ℕ) → u < 2 ^ 32 → SFits w a → SFits w (a +ℤ pos (s - 1)) → SFits w (scaled a s u)
unfolding scaled
scaled_fits {w} a s u l h k =
    let v = u * s / 2 ^ 32 in
    let p = add_parts a (pos v) in
    let q = add_parts a (pos (s - 1)) in
    let t : v ≤ s - 1 = share u s l in
    record { sfits = between a (a +ℤ pos v) (a +ℤ pos (s - 1)) (2 ^ hbits w) h.sfits k.sfits (omega (arith, p)) (omega (arith, p, q, t)) }

-- the share of a draw, as a number of 64 bits, and added to one of 32
pub share_lt : (u s : ℕ) → u < 2 ^ 32 → s < 2 ^ 32 → (u * s < 2 ^ 64) × (u * s / 2 ^ 32 < 2 ^ 32)
share_lt u s h k =
    let m : u ≤ 4294967295 = omega arith in
    let n : s ≤ 4294967295 = omega arith in
    let a : u * s ≤ 4294967295 * 4294967295 = mul-le-mul m n in
    (omega arith, omega (arith, share u s h))

pub sum_fits : (a : ℤ) (v : ℕ) → SFits w32 a → v < 2 ^ 32 → SFits w64 (a +ℤ pos v)
sum_fits a v h l =
    let m = h.sfits in
    record { sfits = omega (arith, mag_add a (pos v)) }

-- a turn of a loop that fills a list with draws
pub picks_more : (d : List ℤ) (a : ℤ) (s : ℕ) (x : ℤ) (k i : ℕ) → i < length d
    → set (picks a s x k i ++ drop i d) i (pick a s x (k + i)) ≡ picks a s x k (suc i) ++ drop (suc i) d
unfolding picks
picks_more d a s x k i h = tabulate-more d (λ j. pick a s x (k + j)) i h

pub picks-none : (a : ℤ) (s : ℕ) (x : ℤ) (k : ℕ) → picks a s x k 0 ≡ []
unfolding picks tabulate
picks-none a s x k = refl

-- the value that a draw is scaled from
pick_of : (a : ℤ) (s : ℕ) (x : ℤ) (k : ℕ) → scaled a s (unsigned (rand (drawn x k))) ≡ pick a s x k
unfolding pick drawn
pick_of a s x k = refl

pub pick_by : (a : ℤ) (s : ℕ) (x : ℤ) (k : ℕ) {l y d r v : ℤ} → l ≡ a → y ≡ x → d ≡ drawn y k → r ≡ rand d → v ≡ scaled l s (unsigned r) → v ≡ pick a s x k
pick_by a s x k el ey ed er ev = rw (ev, el, er, ed, ey) (pick_of a s x k)

pub drawn-next : (x : ℤ) (k i : ℕ) → rand (drawn x (k + i)) ≡ drawn x (k + suc i)
unfolding drawn
drawn-next x k i =
    let e : suc (k + i) ≡ k + suc i = omega arith in
    ap (drawn x) e

pub pick-fits : {w : Width} (a : ℤ) (s : ℕ) (x : ℤ) (k : ℕ) → SFits w a → SFits w (a +ℤ pos (s - 1)) → SFits w (pick a s x k)
unfolding pick
pick-fits a s x k h l = scaled_fits a s (draw_at x k) (unsigned_lt (drawn x (suc k))) h l

-- the elements of a list of draws
pub length-picks : (a : ℤ) (s : ℕ) (x : ℤ) (k n : ℕ) → length (picks a s x k n) ≡ n
unfolding picks
length-picks a s x k n = length-tabulate n (λ i. pick a s x (k + i))

pub get_or-picks : (a : ℤ) (s : ℕ) (x : ℤ) (k n i : ℕ) → i < n → get_or (picks a s x k n) i (pos 0) ≡ pick a s x (k + i)
unfolding picks
get_or-picks a s x k n i h = get_or-tabulate n (λ j. pick a s x (k + j)) i h

pub picks-fit : {w : Width} (a : ℤ) (s : ℕ) (x : ℤ) (k n : ℕ) → SFits w a → SFits w (a +ℤ pos (s - 1)) → AllFit w (picks a s x k n)
picks-fit {w} a s x k n h l i = go (ltb i n) refl
  where
    go : (b : Bool) → ltb i n ≡ b → SFits w (get_or (picks a s x k n) i (pos 0))
    go true e = rw (get_or-picks a s x k n i (ltb-true i n e)) (pick-fits a s x (k + i) h l)
    go false e =
        let z = beyond (picks a s x k n) i (rw (length-picks a s x k n) (ltb-false i n e)) in
        let m = h.sfits in
        abs-fits _ (omega (arith, z, m))
