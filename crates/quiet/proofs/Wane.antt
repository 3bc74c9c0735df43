-- What c counted losses leave of the filter's sizes, the taps and the noise's scale.
use Prim.Native.Nat.{ℕ, zero, suc, ◌+◌, ◌-◌, ◌*◌, ◌/◌, ◌^◌, ◌<◌, ◌≤◌, zero-le}
use mathlib.Core.Path.{◌≡◌, refl, ap, subst}
use mathlib.Core.Bool.{Bool, true, false, cond}
use mathlib.Core.List.{List}
use native.Mathlib.Omega.{arith}
use native.Mathlib.Nat.{le_refl, le_trans, mul-le-mul_left, mul-le-mul_right}
use borrow.Author.Tests.{ne_eqb, ltb-false}
use lib.Dec.{lit≤}
use lib.ListN.{get_or, take, replicate}
use lib.IntN.{ℤ, pos, negsuc, nat_abs, ◌+ℤ◌, ◌-ℤ◌, ◌*ℤ◌}
use lib.Signed.{lt_z}
use mir.Syntax.{w16, w32}
use Rattle.word.specs.Int.{floor_div, eq_ℤ, wrap16, min_ℤ, max_ℤ}
use Rattle.word.specs.Size.{size_at, sizes}
use Rattle.word.proofs.Words.{wrap_id}
use Rattle.word.proofs.Sizes.{abs-add, abs-sub, abs-fits}
use Rattle.macros.specs.Fixed.{smulbb, smulwb}
use Rattle.sigproc.proofs.Shrink.{Upto, sigma, sigmas, shrunk-sum}
use Rattle.stability.specs.Stability.{stability, inverse_gain}
use Rattle.shape.specs.Shape.{Shape, lpc_order}
use Rattle.shape.proofs.Shapes.{order_le}
use Rattle.decoder.specs.declared.SilkPLCState.{SilkPLCState}
use Rattle.decoder.specs.declared.SilkDecoderState.{SilkDecoderState}
use Rattle.judge.specs.Taps.{tap_sum}
use Rattle.plc.specs.Hold.{plc_ready}
use Rattle.plc.specs.Conceal.{noise_place, first, was_voiced, harm_gain, filter_held, coefficients, noise_gain, noise_scale, voice_by, voice}
use Rattle.quiet.proofs.Voice.{times, lower, nearer, times-lower, voices_scale, voices_tap}
use Rattle.quiet.proofs.Loss.{Left, Outer, same}

-- ---- the gains of a loss
-- at least one loss before
abbrev pub Later : SilkDecoderState → Type 0
Later s = first s.loss_cnt ≡ false

pub harm_later : (s : SilkDecoderState) → Later s → nat_abs (harm_gain s.loss_cnt) ≤ 31130
unfolding harm_gain
harm_later s k = rw k (le_refl 31130)

harm_any : (s : SilkDecoderState) → nat_abs (harm_gain s.loss_cnt) ≤ 32440
unfolding harm_gain
harm_any s = go (first s.loss_cnt)
  where
    go : (b : Bool) → nat_abs (cond b (pos 32440) (pos 31130)) ≤ 32440
    go true = lit≤ tt
    go false = lit≤ tt

-- a gain that is not negative
abbrev Gain : ℕ → ℤ → Type 0
Gain A z = (g : ℕ) × (z ≡ pos g) × (g ≤ A)

noise_later : (p : Shape) (s : SilkDecoderState) (h : SilkPLCState) → Later s → Gain 29491 (noise_gain s.loss_cnt s.prev_signal_type s.settings.edition (take (lpc_order p) (coefficients p s h)))
unfolding noise_gain
noise_later p s h k = rw k (go (was_voiced s.prev_signal_type))
  where
    go : (b : Bool) → Gain 29491 (cond b (pos 26214) (pos 29491))
    go true = (26214, refl, lit≤ tt)
    go false = (29491, refl, lit≤ tt)

-- the limits of the stability test's answer
limited : (z : ℤ) → Upto (2 ^ 27) (max_ℤ (pos (2 ^ 22)) (min_ℤ (pos (2 ^ 27)) z))
unfolding max_ℤ min_ℤ
limited z = low (lt_z (pos (2 ^ 27)) z) refl
  where
    high : (b : Bool) (y : ℤ) → lt_z y (pos (2 ^ 22)) ≡ b → lt_z (pos (2 ^ 27)) y ≡ false → Upto (2 ^ 27) (cond b (pos (2 ^ 22)) y)
    high true y e f = (omega arith, omega arith)
    high false (pos n) e f = (omega arith, ltb-false (2 ^ 27) n f)
    high false (negsuc n) e f = let z : ◌≡◌ {A = ℕ} 0 1 = cc in absurd (omega arith)

    low : (b : Bool) → lt_z (pos (2 ^ 27)) z ≡ b
        → Upto (2 ^ 27) (cond (lt_z (cond b (pos (2 ^ 27)) z) (pos (2 ^ 22))) (pos (2 ^ 22)) (cond b (pos (2 ^ 27)) z))
    low true e = (omega arith, omega arith)
    low false e = high (lt_z z (pos (2 ^ 22))) z refl e

first_gain : (z : ℤ) → Upto (2 ^ 27) z → Gain 32767 (floor_div (smulwb (z *ℤ pos (2 ^ 3)) (pos 32440)) (2 ^ 14))
unfolding smulwb
first_gain (negsuc n) h = absurd (omega arith)
first_gain (pos n) h =
    rw (
      wrap_id {w = w16} {z = pos 32440} (abs-fits (pos 32440) (omega arith)),
      wrap_id {w = w32} {z = pos (n * 8 * 32440 / 65536)} (abs-fits (pos (n * 8 * 32440 / 65536)) (omega arith)),
    )
    (n * 8 * 32440 / 65536 / 16384, refl, omega arith)

noise_any : (p : Shape) (s : SilkDecoderState) (h : SilkPLCState) → Gain 32767 (noise_gain s.loss_cnt s.prev_signal_type s.settings.edition (take (lpc_order p) (coefficients p s h)))
unfolding noise_gain
noise_any p s h = go (was_voiced s.prev_signal_type) (first s.loss_cnt)
  where
    answer : ℤ
    answer = inverse_gain (stability s.settings.edition (take (lpc_order p) (coefficients p s h)))

    x : ℤ
    x = max_ℤ (pos (2 ^ 22)) (min_ℤ (pos (2 ^ 27)) answer)

    go : (a b : Bool) → Gain 32767 (cond a (cond b (pos 31130) (pos 26214)) (cond b (floor_div (smulwb (x *ℤ pos (2 ^ 3)) (pos 32440)) (2 ^ 14)) (pos 29491)))
    go true true = (31130, refl, lit≤ tt)
    go true false = (26214, refl, lit≤ tt)
    go false true = first_gain x (limited answer)
    go false false = (29491, refl, lit≤ tt)

-- ---- the noise's scale
sum_le : (b : List ℤ) → Outer b → nat_abs (tap_sum b 0) ≤ size_at b 2
unfolding tap_sum
sum_le b o =
    let t : ℕ → ℤ = λ j. get_or b j (pos 0) in
    omega (
      arith,
      abs-add (t 0) (t 1),
      abs-add (t 0 +ℤ t 1) (t 2),
      abs-add (t 0 +ℤ t 1 +ℤ t 2) (t 3),
      abs-add (t 0 +ℤ t 1 +ℤ t 2 +ℤ t 3) (t 4),
    )

at_least : (z : ℤ) (B : ℕ) → 3277 ≤ B → nat_abs z ≤ B → Upto B (max_ℤ z (pos 3277))
unfolding max_ℤ
at_least z B k h = go (lt_z (pos 3277) z) z h refl
  where
    go : (b : Bool) (z : ℤ) → nat_abs z ≤ B → lt_z (pos 3277) z ≡ b → Upto B (cond b z (pos 3277))
    go true (pos n) h e = (omega arith, h)
    go true (negsuc n) h e = let z : ◌≡◌ {A = ℕ} 0 1 = cc in absurd (omega arith)
    go false z h e = (omega arith, k)

scaled : (y z : ℤ) → Upto 32767 y → Upto 16384 z → Upto 32767 (wrap16 (floor_div (smulbb y z) (2 ^ 14)))
unfolding smulbb
scaled (negsuc y) z h k = absurd (omega arith)
scaled (pos y) (negsuc z) h k = absurd (omega arith)
scaled (pos y) (pos z) h k =
    let m : y * z ≤ y * 16384 = mul-le-mul_left y k.1 in
    rw (
      wrap_id {w = w16} {z = pos y} (abs-fits (pos y) (omega arith)),
      wrap_id {w = w16} {z = pos z} (abs-fits (pos z) (omega arith)),
      wrap_id {w = w16} {z = pos (y * z / 16384)} (abs-fits (pos (y * z / 16384)) (omega arith)),
    )
    (omega arith, omega arith)

scale_any : (s : SilkDecoderState) (h : SilkPLCState) → Outer h.ltp_coef_q14 → size_at h.ltp_coef_q14 2 ≤ 15565
    → Upto 16384 h.prev_ltp_scale_q14 → Upto 32767 h.rand_scale_q14 → Upto 32767 (noise_scale s.loss_cnt s.prev_signal_type h)
unfolding noise_scale
scale_any s h o t l n = go (first s.loss_cnt) (was_voiced s.prev_signal_type)
  where
    x : ℤ
    x = pos 16384 -ℤ tap_sum h.ltp_coef_q14 0

    go : (a b : Bool) → Upto 32767 (cond a (cond b (wrap16 (floor_div (smulbb (max_ℤ x (pos 3277)) h.prev_ltp_scale_q14) (2 ^ 14))) (pos 16384)) h.rand_scale_q14)
    go true true =
        scaled (max_ℤ x (pos 3277)) h.prev_ltp_scale_q14
        (at_least x 32767 (lit≤ tt) (omega (arith, abs-sub (pos 16384) (tap_sum h.ltp_coef_q14 0), sum_le h.ltp_coef_q14 o))) l
    go true false = (omega arith, omega arith)
    go false b = n

pub scale_later : (s : SilkDecoderState) (h : SilkPLCState) → Later s → noise_scale s.loss_cnt s.prev_signal_type h ≡ h.rand_scale_q14
unfolding noise_scale
scale_later s h k = rw k refl

-- ---- what a later loss makes of a bound on the scale, and on the middle tap's size: at least two subframes, and two are enough
abbrev pub noise_loss : ℕ → ℕ
noise_loss x = lower 29491 (lower 29491 x)

abbrev pub tap_loss : ℕ → ℕ
tap_loss x = nearer 31130 (nearer 31130 x)

pub times-split : (g : ℕ → ℕ) (m k x : ℕ) → times g (m + k) x ≡ times g m (times g k x)
unfolding times
times-split g zero k x = let e : zero + k ≡ k = omega arith in rw e refl
times-split g (suc m) k x = let e : suc m + k ≡ suc (m + k) = omega arith in rw e (ap g (times-split g m k x))

-- a bound that holds after k turns, and that further turns keep
pub from-turn : (g : ℕ → ℕ) (k n x B : ℕ) → k ≤ n → ((m : ℕ) → times g m (times g k x) ≤ B) → times g n x ≤ B
from-turn g k n x B h s =
    let e : n - k + k ≡ n = omega arith in
    subst (λ (i : ℕ). times g i x ≤ B) e (rw (times-split g (n - k) k x) (s (n - k)))

noise_loss_lem : (n x : ℕ) → 2 ≤ n → times (lower 29491) n x ≤ noise_loss x
unfolding times
noise_loss_lem n x h = from-turn (lower 29491) 2 n x (noise_loss x) h (λ m. times-lower 29491 m (noise_loss x) (lit≤ tt))

times-nearer : (k x : ℕ) → 20 ≤ x → times (nearer 31130) k x ≤ x
unfolding times
times-nearer zero x h = le_refl x
times-nearer (suc k) x h = omega (arith, times-nearer k x h)

tap_loss_lem : (n x : ℕ) → 2 ≤ n → 20 ≤ x → times (nearer 31130) n x ≤ tap_loss x
unfolding times
tap_loss_lem n x h k = from-turn (nearer 31130) 2 n x (tap_loss x) h (λ m. times-nearer m (tap_loss x) (omega arith))

tap_first : (A k x : ℕ) → A ≤ 32440 → x ≤ 15565 → times (nearer A) k x ≤ 15565
unfolding times
tap_first A zero x hA h = h
tap_first A (suc k) x hA h = omega (arith, mul-le-mul_right (times (nearer A) k x) hA, tap_first A k x hA h)

tap_none : (A k : ℕ) → times (nearer A) k 0 ≤ 0
unfolding times
tap_none A zero = le_refl 0
tap_none A (suc k) =
    let e : times (nearer A) k 0 ≡ 0 = omega (arith, tap_none A k) in
    rw e (omega arith)

times_tap : (c : ℕ) → 20 ≤ times tap_loss c 15565
unfolding times
times_tap zero = lit≤ tt
times_tap (suc c) = let i = times_tap c in omega arith

times_noise : (c : ℕ) → times noise_loss c 32767 ≤ 32767
unfolding times
times_noise zero = lit≤ tt
times_noise (suc c) = let i = times_noise c in omega arith

-- ---- the filter
pub zeros : (n j : ℕ) → size_at (replicate n (pos 0)) j ≤ 0
zeros zero j = le_refl 0
zeros (suc n) zero = le_refl 0
zeros (suc n) (suc j) = zeros n j

pub zeros-sum : (n j : ℕ) → sizes (replicate n (pos 0)) j ≤ 0
unfolding sizes
zeros-sum n zero = le_refl 0
zeros-sum n (suc j) = omega (arith, zeros-sum n j, zeros n j)

pub coefs-sum : (p : Shape) (s : SilkDecoderState) (h : SilkPLCState) (x : ℕ) → sizes (filter_held s h) (lpc_order p) ≤ x
    → sizes (coefficients p s h) (lpc_order p) ≤ sigma x
unfolding coefficients
coefs-sum p s h x k = shrunk-sum (filter_held s h) (lpc_order p) x (order_le p.rate) k

-- no more than what is held
pub filter_le : (s : SilkDecoderState) (h : SilkPLCState) (d : ℕ) → sizes (filter_held s h) d ≤ sizes h.prev_lpc_q12 d
filter_le s h d = go (eq_ℤ s.first_frame_after_reset (pos 0))
  where
    go : (b : Bool) → sizes (cond b h.prev_lpc_q12 (replicate 16 (pos 0))) d ≤ sizes h.prev_lpc_q12 d
    go true = le_refl _
    go false = le_trans (zeros-sum 16 d) zero-le

-- ---- a frame
module _ (p : Shape) (s : SilkDecoderState) (h : SilkPLCState) where
  tap-of : (j A B : ℕ) → nat_abs (harm_gain s.loss_cnt) ≤ A → size_at h.ltp_coef_q14 j ≤ B → size_at (voice p s h).taps j ≤ times (nearer A) p.subframes B
  unfolding voice voice_by
  tap-of j A B hA hB = voices_tap p s.exc_q14 (noise_place p s h) (harm_gain s.loss_cnt) (noise_gain s.loss_cnt s.prev_signal_type s.settings.edition (take (lpc_order p) (coefficients p s h))) p.subframes _ j A B hA hB

  scale_of : (A B : ℕ) → Gain A (noise_gain s.loss_cnt s.prev_signal_type s.settings.edition (take (lpc_order p) (coefficients p s h))) → A ≤ 32767 → B ≤ 32767 → Upto B (noise_scale s.loss_cnt s.prev_signal_type h)
      → Upto (times (lower A) p.subframes B) (voice p s h).scale
  unfolding voice voice_by
  scale_of A B g hA hB k =
      rw g.1 (voices_scale p s.exc_q14 (noise_place p s h) (harm_gain s.loss_cnt) g.0 p.subframes _ A B g.2 hA hB k)

  outer-of : Outer h.ltp_coef_q14 → Outer (voice p s h).taps
  outer-of o =
      let A = nat_abs (harm_gain s.loss_cnt) in
      let z = tap_none A p.subframes in (
        le_trans (tap-of 0 A 0 (le_refl A) o.0) z,
        le_trans (tap-of 1 A 0 (le_refl A) o.1) z,
        le_trans (tap-of 3 A 0 (le_refl A) o.2) z,
        le_trans (tap-of 4 A 0 (le_refl A) o.3) z,
      )

pub wider : (z : ℤ) (A B : ℕ) → A ≤ B → Upto A z → Upto B z
wider z A B h k = (k.0, omega arith)

-- c losses count, and S is the sum of the coefficients' sizes before the first
pub record Waning (p : Shape) (S c : ℕ) (s : SilkDecoderState) (h : SilkPLCState) : Type 0 where
  pub sum : sizes (filter_held s h) (lpc_order p) ≤ sigmas c S
  pub outer : Outer h.ltp_coef_q14
  pub tap : size_at h.ltp_coef_q14 2 ≤ times tap_loss (c - 1) 15565
  pub noise : Upto (times noise_loss (c - 1) 32767) h.rand_scale_q14
  pub ltp : Upto 16384 h.prev_ltp_scale_q14
  pub count : (m : ℕ) × (s.loss_cnt ≡ pos m) × (c ≤ m)

pub later_of : (p : Shape) (S c : ℕ) (s : SilkDecoderState) (h : SilkPLCState) → 0 < c → Waning p S c s h → Later s
later_of p S c s h k v =
    rw v.count.1 (ne_eqb v.count.0 0 (λ e. omega (arith, v.count.2)))

-- what concealment works with
pub waning-ready : (p : Shape) (S c : ℕ) (s : SilkDecoderState) (h : SilkPLCState) → Waning p S c s h → Waning p S c s (plc_ready p h)
waning-ready p S c s h v =
    let e = same p h in
    record {
      sum = rw e.coefs v.sum;
      outer = rw e.taps v.outer;
      tap = rw e.taps v.tap;
      noise = rw e.scale v.noise;
      ltp = rw e.ltp v.ltp;
      count = v.count;
    }

-- one loss more
module _ (p : Shape) (S : ℕ) (s : SilkDecoderState) (h : SilkPLCState) (t : SilkDecoderState) (k : SilkPLCState) (l : Left p s h t k) (two : 2 ≤ p.subframes) where
  filter-after : sizes (filter_held t k) (lpc_order p) ≤ sizes (coefficients p s h) (lpc_order p)
  filter-after = le_trans (filter_le t k (lpc_order p)) (rw l.coefs (le_refl _))

  counted : (c : ℕ) → Waning p S c s h → (m : ℕ) × (t.loss_cnt ≡ pos m) × (suc c ≤ m)
  counted c v = (v.count.0 + 1, rw (l.count, v.count.1) refl, omega (arith, v.count.2))

  pub waning : (c : ℕ) → Waning p S c s h → Waning p S (suc c) t k
  unfolding sigmas times
  waning zero v =
      let A = nat_abs (harm_gain s.loss_cnt) in
      let y = scale_of p s h 32767 32767 (noise_any p s h) (lit≤ tt) (lit≤ tt) (scale_any s h v.outer v.tap v.ltp v.noise) in
      record {
        sum = le_trans filter-after (coefs-sum p s h S v.sum);
        outer = rw l.taps (outer-of p s h v.outer);
        tap = rw l.taps (le_trans (tap-of p s h 2 A 15565 (le_refl A) v.tap) (tap_first A p.subframes 15565 (harm_any s) (le_refl 15565)));
        noise = rw l.scale (wider (voice p s h).scale _ 32767 (times-lower 32767 p.subframes 32767 (lit≤ tt)) y);
        ltp = rw l.ltp v.ltp;
        count = counted 0 v;
      }
  waning (suc c) v =
      let later = later_of p S (suc c) s h (omega arith) v in
      let B = times tap_loss c 15565 in
      let X = times noise_loss c 32767 in
      let e : suc c - 1 ≡ c = omega arith in
      let e2 : suc (suc c) - 1 ≡ suc c = omega arith in
      let b : size_at h.ltp_coef_q14 2 ≤ B = rw e at v.tap in
      let u : Upto X (noise_scale s.loss_cnt s.prev_signal_type h) = rw (scale_later s h later) (rw e at v.noise) in
      let y = scale_of p s h 29491 X (noise_later p s h later) (lit≤ tt) (times_noise c) u in
      record {
        sum = le_trans filter-after (coefs-sum p s h (sigmas (suc c) S) v.sum);
        outer = rw l.taps (outer-of p s h v.outer);
        tap = rw (l.taps, e2) (le_trans (tap-of p s h 2 31130 B (harm_later s later) b) (tap_loss_lem p.subframes B two (times_tap c)));
        noise = rw (l.scale, e2) (wider (voice p s h).scale _ (noise_loss X) (noise_loss_lem p.subframes X two) y);
        ltp = rw l.ltp v.ltp;
        count = counted (suc c) v;
      }
