-- The loop over the subframes.
use Prim.Native.Nat.{ℕ, suc, ◌+◌, ◌*◌, ◌<◌, ◌≤◌}
use mathlib.Core.Path.{◌≡◌, refl, sym, ap, ◌∙◌}
use mathlib.Core.Bool.{Bool, true, false, cond, ◌&&◌, ◌||◌}
use mathlib.Core.List.{List, []}
use native.Mathlib.Omega.{arith}
use native.Mathlib.Nat.{mul-suc, mul-le-mul_left, le_trans}
use lib.Dec.{ltb}
use lib.IntN.{ℤ, pos}
use lib.ListN.{length, get_or, take, drop, length-set}
use lib.Seq.{get_or-set_same, get_or-set_other, drop-drop}
use Rattle.decoder.specs.declared.SilkDecoderControl.{SilkDecoderControl}
use Rattle.decode_core.specs.Core.{Core, transits, held_lag, smooth, smoothed, long, control_at, subframe, subframes}
use Rattle.decode_core.specs.Ready.{Lag, Playable, Framed, held}
use Rattle.decode_core.specs.declared.Setting.{Setting}
use Rattle.decode_core.specs.declared.Carried.{Carried}
use Rattle.decode_core.proofs.Plays.{control_at_gains}

-- ---- the description of a subframe
pub control_at_lags : (f : Setting) (c : SilkDecoderControl) (k : ℕ) → length (control_at f c k).pitch_l ≡ length c.pitch_l
unfolding control_at smoothed
control_at_lags f c k = go (smooth f k)
  where
    go : (b : Bool) → length (cond b (smoothed c (held_lag f) k) c).pitch_l ≡ length c.pitch_l
    go true = length-set c.pitch_l k (held_lag f)
    go false = refl

-- later lags are as they were
control_at_later : (f : Setting) (c : SilkDecoderControl) (k j : ℕ) → k < j → get_or (control_at f c k).pitch_l j (pos 0) ≡ get_or c.pitch_l j (pos 0)
unfolding control_at smoothed
control_at_later f c k j h = go (smooth f k)
  where
    go : (b : Bool) → get_or (cond b (smoothed c (held_lag f) k) c).pitch_l j (pos 0) ≡ get_or c.pitch_l j (pos 0)
    go true = get_or-set_other c.pitch_l k j (held_lag f) (pos 0) (λ e. omega arith)
    go false = refl

lag_at : (f : Setting) (c : SilkDecoderControl) (k : ℕ) → k < length c.pitch_l → (transits f ≡ true → Lag f (held_lag f)) → (f.voiced ≡ true → Lag f (get_or c.pitch_l k (pos 0)))
    → long f k ≡ true → Lag f (get_or (control_at f c k).pitch_l k (pos 0))
unfolding control_at smoothed
lag_at f c k h s v = go (transits f) (ltb k 2) s
  where
    go : (t u : Bool) → (t ≡ true → Lag f (held_lag f)) → ((t && u) || f.voiced) ≡ true → Lag f (get_or (cond (t && u) (smoothed c (held_lag f) k) c).pitch_l k (pos 0))
    go true true s w = rw (get_or-set_same c.pitch_l k (held_lag f) (pos 0) h) (s refl)
    go true false s w = v w
    go false u s w = v w

-- ---- what holds before subframe k
module _ (f : Setting) (rows : List (List ℤ)) (exc : List ℤ) (n : ℕ) (b : Carried) (signal₀ past₀ ob₀ xq₀ : List ℤ) where
  pub record Going (k : ℕ) (t : Carried) (signal past ob xq : List ℤ) : Type 0 where
    pub done : held t past signal ob (take (f.subfr_length * k) xq) ≡ subframes f rows exc (held b past₀ signal₀ ob₀ []) k
    pub left : drop (f.subfr_length * k) xq ≡ drop (f.subfr_length * k) xq₀
    pub low : f.ltp_mem_length ≤ length past
    pub high : length past ≤ f.ltp_mem_length + f.subfr_length * k
    pub gains : t.control.gains_q16 ≡ b.control.gains_q16
    pub lags : length t.control.pitch_l ≡ 4
    pub later : (j : ℕ) → k ≤ j → get_or t.control.pitch_l j (pos 0) ≡ get_or b.control.pitch_l j (pos 0)

  pub begun : length past₀ ≡ f.ltp_mem_length → length b.control.pitch_l ≡ 4 → Going 0 b signal₀ past₀ ob₀ xq₀
  unfolding subframes
  begun i l =
      let z : f.subfr_length * 0 ≡ 0 = omega arith in
      record {
        done = rw z refl;
        left = refl;
        low = omega arith;
        high = omega arith;
        gains = refl;
        lags = l;
        later = λ j h. refl;
      }

  pub playable : (k : ℕ) (t : Carried) (signal past ob xq : List ℤ) → Framed f b.control n → k < n → Going k t signal past ob xq → Playable f t.control k (length past)
  playable k t signal past ob xq p h g =
      record {
        sized = p.sized;
        place = omega (arith, p.count);
        gain = λ e. p.gains k h (ap (λ (xs : List ℤ). get_or xs k (pos 0)) (sym g.gains) ∙ e);
        lag = lag_at f t.control k (omega (arith, p.count, g.lags)) p.smooth (λ v. rw (g.later k (omega arith)) (p.lags v k h));
        low = g.low;
        high = g.high;
      }

  pub went : (k : ℕ) (t r : Carried) (signal past ob xq signal' past' ob' xq' : List ℤ) → Going k t signal past ob xq
      → (held r past' signal' ob' (take (f.subfr_length * k + f.subfr_length) xq') ≡ subframe f rows exc k (held t past signal ob (take (f.subfr_length * k) xq)))
      → (drop (f.subfr_length * k + f.subfr_length) xq' ≡ drop (f.subfr_length * k + f.subfr_length) xq)
      → length past' ≡ length past + cond (long f k) f.subfr_length 0
      → Going (suc k) r signal' past' ob' xq'
  unfolding subframes subframe
  went k t r signal past ob xq signal' past' ob' xq' g e d i =
      let l = f.subfr_length in
      let m : l * suc k ≡ l * k + l = mul-suc l k in
      let c : r.control ≡ control_at f t.control k = ap (λ (x : Core). x.control) e in
      record {
        done = rw m (e ∙ ap (subframe f rows exc k) g.done);
        left = rw m (d ∙ sym (drop-drop l (l * k) xq) ∙ ap (drop l) g.left ∙ drop-drop l (l * k) xq₀);
        low = omega (arith, g.low, i);
        high = rw (m, i) (le_trans (most (long f k) (length past) l (f.ltp_mem_length + l * k) g.high) (omega arith));
        gains = ap (λ (x : SilkDecoderControl). x.gains_q16) c ∙ control_at_gains f t.control k ∙ g.gains;
        lags = ap (λ (x : SilkDecoderControl). length x.pitch_l) c ∙ control_at_lags f t.control k ∙ g.lags;
        later = λ j h. ap (λ (x : SilkDecoderControl). get_or x.pitch_l j (pos 0)) c ∙ control_at_later f t.control k j h ∙ g.later j (omega arith);
      }
    where
      most : (a : Bool) (i l h : ℕ) → i ≤ h → i + cond a l 0 ≤ h + l
      most true i l h e = omega arith
      most false i l h e = omega arith

-- a subframe's stretch
pub room : (f : Setting) (k n m : ℕ) → k < n → f.subfr_length * n ≤ m → f.subfr_length * k + f.subfr_length ≤ m
room f k n m h r = omega (arith, mul-le-mul_left f.subfr_length h, mul-suc f.subfr_length k)
