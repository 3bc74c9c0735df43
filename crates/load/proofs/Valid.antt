-- A drawn frame meets none of rows 5 to 9, and its numbers have the ranges of their types.
use Prim.Native.Nat.{ℕ, zero, suc, ◌+◌, ◌-◌, ◌*◌, ◌/◌, ◌^◌, ◌≤◌, ◌<◌}
use mathlib.Core.Path.{◌≡◌, refl, sym, ap, subst}
use mathlib.Core.Bool.{Bool, true, false, not, ◌&&◌}
use native.Mathlib.Omega.{arith}
use borrow.Author.Tests.{le-leb}
use lib.IntN.{ℤ, pos, negsuc, nat_abs, ◌+ℤ◌, pos-ne-negsuc}
use lib.ListN.{get_or}
use mir.Syntax.{Width, w16}
use mir.Val.{SFits}
use Rattle.word.proofs.Parts.{add_parts}
use Rattle.word.proofs.Sizes.{abs-add, abs_le}
use Rattle.refusal.specs.First.{first_of}
use Rattle.std.specs.Prelude.{Ok}
use Rattle.refusal.proofs.Clear.{passed}
use Rattle.shape.specs.Shape.{Shape, shape, order_of, rate_of}
use Rattle.shape.proofs.Shapes.{rate_le, count_le, order_le}
use Rattle.decoder.specs.Signals.{signal_of, signal_number, is_type, is_voiced}
use Rattle.decoder.specs.Ranges.{within, all_within}
use Rattle.decoder.specs.Typed.{Words}
use Rattle.decoder.proofs.Between.{Between, between-back, only_if_lem, all_between_back}
use Rattle.decoder.proofs.Built.{wider}
use Rattle.judge.specs.Taps.{tap_sum, taps_fit}
use Rattle.judge.specs.Rows.{signal_row, gain_row, lag_row, taps_row, line_row, description_rows}
use Rattle.generator.specs.Draws.{drawn, draw_at}
use Rattle.generator.specs.Scaled.{scaled, pick, picks}
use Rattle.generator.proofs.Scales.{share, unsigned_lt, pick-fits, length-picks, get_or-picks, picks-fit}
use Rattle.load.specs.Load.{params_of, control_of, rows_of, lines_of, pulses_of}
use Rattle.load.specs.Claims.{DrawnValid, DrawnTyped}

-- a draw from n on lies in n to n + s - 1
pick-between : (n s : ℕ) (x : ℤ) (k : ℕ) → 0 < s → Between n (n + s - 1) (pick (pos n) s x k)
unfolding pick scaled
pick-between n s x k h =
    let l = share (draw_at x k) s (unsigned_lt (drawn x (suc k))) in
    record { is = refl; low = omega arith; high = omega (arith, l) }

picks-between : (n s : ℕ) (x : ℤ) (at m i : ℕ) → 0 < s → i < m → Between n (n + s - 1) (get_or (picks (pos n) s x at m) i (pos 0))
picks-between n s x at m i h l = subst (Between n (n + s - 1)) (sym (get_or-picks (pos n) s x at m i l)) (pick-between n s x (at + i) h)

type_is : (z : ℤ) → Between 0 2 z → is_type (signal_of z) ≡ true
unfolding is_type signal_of signal_number within
type_is (pos zero) h = refl
type_is (pos (suc zero)) h = refl
type_is (pos (suc (suc zero))) h = refl
type_is (pos (suc (suc (suc n)))) h = absurd (omega (arith, h.high))
type_is (negsuc n) h = absurd (pos-ne-negsuc _ n (sym h.is))

-- a tap's size
tap_size : (x : ℤ) (k : ℕ) → nat_abs (pick (negsuc 6552) 13107 x k) ≤ 6553
unfolding pick scaled
tap_size x k =
    let m = share (draw_at x k) 13107 (unsigned_lt (drawn x (suc k))) in
    let l : draw_at x k * 13107 / 2 ^ 32 < 13107 = omega (arith, m) in
    go (draw_at x k * 13107 / 2 ^ 32) l
  where
    go : (v : ℕ) → v < 13107 → nat_abs (negsuc 6552 +ℤ pos v) ≤ 6553
    go v h = abs_le (negsuc 6552 +ℤ pos v) 6553 (omega (arith, h, add_parts (negsuc 6552) (pos v))) (omega (arith, h, add_parts (negsuc 6552) (pos v)))

tap_at : (x : ℤ) (i : ℕ) → i < 20 → nat_abs (get_or (picks (negsuc 6552) 13107 x 45 20) i (pos 0)) ≤ 6553
tap_at x i l = rw (get_or-picks (negsuc 6552) 13107 x 45 20 i l) (tap_size x (45 + i))

in_words : (z : ℤ) → nat_abs z ≤ 32767 → within (negsuc 32767) (pos 32767) z ≡ true
unfolding within
in_words (pos n) h = le-leb n 32767 h
in_words (negsuc n) h = rw (le-leb n 32767 (omega (arith, h))) refl

sum_of : (x : ℤ) (k : ℕ) → k < 4 → within (negsuc 32767) (pos 32767) (tap_sum (picks (negsuc 6552) 13107 x 45 20) k) ≡ true
unfolding tap_sum
sum_of x k l =
    let t : ℕ → ℤ = λ i. get_or (picks (negsuc 6552) 13107 x 45 20) i (pos 0) in
    in_words (t (5 * k) +ℤ t (5 * k + 1) +ℤ t (5 * k + 2) +ℤ t (5 * k + 3) +ℤ t (5 * k + 4))
    (omega (
      arith,
      abs-add (t (5 * k)) (t (5 * k + 1)),
      abs-add (t (5 * k) +ℤ t (5 * k + 1)) (t (5 * k + 2)),
      abs-add (t (5 * k) +ℤ t (5 * k + 1) +ℤ t (5 * k + 2)) (t (5 * k + 3)),
      abs-add (t (5 * k) +ℤ t (5 * k + 1) +ℤ t (5 * k + 2) +ℤ t (5 * k + 3)) (t (5 * k + 4)),
      tap_at x (5 * k) (omega (arith, l)),
      tap_at x (5 * k + 1) (omega (arith, l)),
      tap_at x (5 * k + 2) (omega (arith, l)),
      tap_at x (5 * k + 3) (omega (arith, l)),
      tap_at x (5 * k + 4) (omega (arith, l)),
    ))

sums_of : (x : ℤ) (n : ℕ) → n ≤ 4 → taps_fit (picks (negsuc 6552) 13107 x 45 20) n ≡ true
unfolding taps_fit
sums_of x zero h = refl
sums_of x (suc n) h = rw (sums_of x n (omega (arith, h))) (sum_of x n h)

no_row : (b : Bool) → b ≡ true → not b ≡ false
no_row b e = ap not e

module _ (x : ℤ) (p : Shape) (few : p.subframes ≤ 4) (most : order_of p.rate ≤ 16) where
  signal-clear : signal_row (params_of x) ≡ false
  unfolding signal_row params_of
  signal-clear =
      let a = type_is (pick (pos 0) 3 x 1) (pick-between 0 3 x 1 (omega arith)) in
      let b = between-back (pick (pos 0) 2 x 2) (pick-between 0 2 x 2 (omega arith)) in
      let c = between-back (pick (pos 0) 5 x 3) (pick-between 0 5 x 3 (omega arith)) in
      λ i. not (a i && b i && c i)

  gain-clear : gain_row p.subframes (control_of x p.rate) ≡ false
  unfolding gain_row control_of
  gain-clear =
      no_row _ (all_between_back 81920 1686110208 (picks (pos 81920) 1686028289 x 9 4) p.subframes (λ i l. picks-between 81920 1686028289 x 9 4 i (omega arith) (omega (arith, few, l))))

  lag-clear : lag_row p (params_of x) (control_of x p.rate) ≡ false
  unfolding lag_row control_of
  lag-clear =
      no_row _ (only_if_lem (is_voiced (params_of x).signal) (all_within (pos (2 * p.rate)) (pos (18 * p.rate)) (picks (pos (2 * p.rate)) (16 * p.rate + 1) x 5 4) p.subframes) (λ v.
      all_between_back (2 * p.rate) (18 * p.rate) (picks (pos (2 * p.rate)) (16 * p.rate + 1) x 5 4) p.subframes (λ i l.
      wider (2 * p.rate) (18 * p.rate) (omega arith) (omega arith) (picks-between (2 * p.rate) (16 * p.rate + 1) x 5 4 i (omega arith) (omega (arith, few, l))))))

  taps-clear : taps_row p.subframes (params_of x) (control_of x p.rate) ≡ false
  unfolding taps_row control_of
  taps-clear =
      let a = between-back (pick (pos 0) 16385 x 65) (pick-between 0 16385 x 65 (omega arith)) in
      let b = only_if_lem (is_voiced (params_of x).signal) (taps_fit (picks (negsuc 6552) 13107 x 45 20) p.subframes) (λ v. sums_of x p.subframes few) in
      λ i. not (a i && b i)

  line_clear : line_row p (lines_of x) ≡ false
  unfolding lines_of
  line_clear =
      no_row _ (all_between_back 0 32767 (picks (pos 0) 32768 x 66 16) (order_of p.rate) (λ i l. picks-between 0 32768 x 66 16 i (omega arith) (omega (arith, most, l))))

  drawn-clear : first_of (description_rows p (params_of x) (control_of x p.rate) (lines_of x)) ≡ Ok tt
  drawn-clear =
      passed (description_rows p (params_of x) (control_of x p.rate) (lines_of x))
      (signal-clear, (gain-clear, (lag-clear, (taps-clear, (line_clear, tt)))))

pub drawn_valid : DrawnValid
drawn_valid x khz nb = drawn-clear x (shape khz nb) (count_le nb) (order_le (rate_of khz))

-- ---- the ranges of the types
words_of : {w : Width} (a : ℤ) (s : ℕ) (x : ℤ) (k n : ℕ) → SFits w a → SFits w (a +ℤ pos (s - 1)) → Words w n (picks a s x k n)
words_of a s x k n h l = record { count = length-picks a s x k n; fits = picks-fit a s x k n h l }

halves : (x : ℤ) (k n : ℕ) → Words w16 n (picks (negsuc 32767) 65536 x k n)
halves x k n = words_of (negsuc 32767) 65536 x k n (record { sfits = omega arith }) (record { sfits = omega arith })

pub drawn_typed : DrawnTyped
unfolding control_of rows_of lines_of pulses_of
drawn_typed x khz =
    let r = rate_of khz in
    let l = rate_le khz in
    record {
      control = record {
        pitch_l = words_of (pos (2 * r)) (16 * r + 1) x 5 4 (record { sfits = omega (arith, l) }) (record { sfits = omega (arith, l) });
        gains_q16 = words_of (pos 81920) 1686028289 x 9 4 (record { sfits = omega arith }) (record { sfits = omega arith });
        ltp_coef_q14 = words_of (negsuc 6552) 13107 x 45 20 (record { sfits = omega arith }) (record { sfits = omega arith });
        ltp_scale_q14 = pick-fits (pos 0) 16385 x 65 (record { sfits = omega arith }) (record { sfits = omega arith });
      };
      rows = record { first = halves x 13 16; second = halves x 29 16 };
      lines = words_of (pos 0) 32768 x 66 16 (record { sfits = omega arith }) (record { sfits = omega arith });
      pulses = halves x 82 320;
    }
