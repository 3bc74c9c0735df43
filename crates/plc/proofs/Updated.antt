-- What concealment holds after a received frame stays in its ranges.
use Prim.Native.Nat.{ℕ, zero, suc, ◌-◌, ◌*◌, ◌^◌, ◌<◌, ◌≤◌}
use mathlib.Core.Path.{◌≡◌, refl}
use mathlib.Core.Bool.{Bool, true, false, cond, ◌&&◌, false≢true}
use mathlib.Core.List.{List, [], ◌∷◌}
use native.Mathlib.Omega.{arith}
use lib.IntN.{ℤ, pos, negsuc, nat_abs, ◌*ℤ◌}
use lib.ListN.{get_or}
use lib.Signed.{lt_z}
use mir.Syntax.{w16, w32}
use mir.Val.{SFits}
use Rattle.word.specs.Int.{eq_ℤ, wrap16, wrap32}
use Rattle.word.proofs.Rows.{both}
use Rattle.word.proofs.Words.{wrap_id}
use Rattle.shape.specs.Shape.{Shape}
use Rattle.shape.proofs.Shapes.{Shaped}
use Rattle.decoder.proofs.Between.{Between, AllBetween}
use Rattle.decoder.proofs.Bounds.{whole, PlcHeldBounds, PlcBounds}
use Rattle.decoder.specs.declared.SilkPLCState.{SilkPLCState}
use Rattle.decoder.specs.declared.SilkDecoderControl.{SilkDecoderControl}
use Rattle.judge.specs.Taps.{tap_sum}
use Rattle.plc.specs.Hold.{plc_reset, plc_ready}
use Rattle.plc.specs.Update.{stronger, strongest, pulse_of, plc_updated}
use Rattle.plc.specs.declared.update.Pulse.{Pulse}
use Rattle.plc.specs.declared.update.Strongest.{Strongest}
use Rattle.plc.proofs.Ready.{reset_held, ready_held, ready_rate}
use Rattle.plc.proofs.Tap.{Middle, tap_range}

-- ---- the strongest subframe
pub record Found (r : ℕ) (b : Strongest) : Type 0 where
  pub is : b.gain ≡ pos (nat_abs b.gain)
  pub most : nat_abs b.gain ≤ 32767
  pub pitch_fits : Between (512 * r) (4608 * r) b.pitch

-- a lag as a pitch (Q8)
in_q8 : (r : ℕ) (z : ℤ) → r ≤ 16 → Between (2 * r) (18 * r) z → Between (512 * r) (4608 * r) (wrap32 (z *ℤ pos (2 ^ 8)))
in_q8 r z h b =
    let l = b.low in
    let u = b.high in
    rw (b.is, wrap_id {w = w32} {z = pos (nat_abs z * 2 ^ 8)} (record { sfits = omega arith }))
    (record { is = refl; low = omega arith; high = omega arith })

-- a sum that is larger than one that is not negative
larger : (n : ℕ) (z : ℤ) → SFits w16 z → lt_z (pos n) z ≡ true → (z ≡ pos (nat_abs z)) × (nat_abs z ≤ 32767)
larger n (pos m) f e = let s = f.sfits in (refl, omega arith)
larger n (negsuc m) f e = absurd (false≢true e)

step : (r : ℕ) (b : Strongest) (reached : Bool) (sum lag : ℤ) → r ≤ 16 → Found r b → SFits w16 sum → Between (2 * r) (18 * r) lag → Found r (stronger b reached sum lag)
unfolding stronger
step r b reached sum lag h f s l = go (reached && lt_z b.gain sum) refl
  where
    go : (t : Bool) → (reached && lt_z b.gain sum) ≡ t → Found r (cond t (record { gain = sum; pitch = wrap32 (lag *ℤ pos (2 ^ 8)) }) b)
    go true e =
        let k = larger (nat_abs b.gain) sum s (rw f.is at (both reached (lt_z b.gain sum) e).1) in
        record { is = k.0; most = k.1; pitch_fits = in_q8 r lag h l }
    go false e = f

module _ (p : Shape) (lags taps : List ℤ) (pitch : ℤ) (rate : p.rate ≤ 16) (some : 1 ≤ p.subframes) (held : Between (512 * p.rate) (4608 * p.rate) pitch)
    (fl : (k : ℕ) → k < p.subframes → Between (2 * p.rate) (18 * p.rate) (get_or lags k (pos 0))) (ft : (k : ℕ) → k < p.subframes → SFits w16 (tap_sum taps k)) where
  pub found : (j : ℕ) → Found p.rate (strongest p lags taps pitch j)
  unfolding strongest
  found zero = record { is = refl; most = omega arith; pitch_fits = held }
  found (suc j) =
      let k : p.subframes - 1 - j < p.subframes = omega arith in
      step p.rate (strongest p lags taps pitch j) _ _ _ rate (found j) (ft _ k) (fl _ k)

-- ---- the pulse
pub record Pulsed (r : ℕ) (b : Pulse) : Type 0 where
  pub tap_fits : Middle b.tap
  pub pitch_fits : Between (512 * r) (4608 * r) b.pitch

module _ (p : Shape) (c : SilkDecoderControl) (pitch : ℤ) (rate : p.rate ≤ 16) (some : 1 ≤ p.subframes) (held : Between (512 * p.rate) (4608 * p.rate) pitch) where
  pub pulsed : (voiced : Bool) → (voiced ≡ true → (k : ℕ) → k < p.subframes → Between (2 * p.rate) (18 * p.rate) (get_or c.pitch_l k (pos 0)))
      → (voiced ≡ true → (k : ℕ) → k < p.subframes → SFits w16 (tap_sum c.ltp_coef_q14 k)) → Pulsed p.rate (pulse_of p voiced c pitch)
  unfolding pulse_of
  pulsed true fl ft =
      let f = found p c.pitch_l c.ltp_coef_q14 pitch rate some held (fl refl) (ft refl) p.subframes in
      record { tap_fits = rw f.is (tap_range _ f.most); pitch_fits = f.pitch_fits }
  pulsed false fl ft =
      record { tap_fits = record { low = omega arith; high = omega arith }; pitch_fits = record { is = refl; low = omega arith; high = omega arith } }

-- ---- what is held
-- after a reset or none, concealment has the rate and holds it
module _ (p : Shape) (h : SilkPLCState) (s : Shaped p.rate p.subframes) (b : PlcBounds p.rate h) where
  pub readied : PlcBounds p.rate (plc_ready p h) × PlcHeldBounds p.rate (plc_ready p h) × ((plc_ready p h).fs_khz ≡ pos p.rate)
  unfolding plc_ready plc_reset
  readied = (go (eq_ℤ (pos p.rate) h.fs_khz), ready_held p h s b, ready_rate p h)
    where
      go : (t : Bool) → PlcBounds p.rate (cond t h (plc_reset p h))
      go true = b
      go false =
          record {
            last_frame_lost = b.last_frame_lost;
            ltp_coef_q14 = b.ltp_coef_q14;
            rand_scale_q14 = b.rand_scale_q14;
            prev_ltp_scale_q14 = b.prev_ltp_scale_q14;
            conc_energy = b.conc_energy;
            conc_energy_shift = b.conc_energy_shift;
            held = λ k. reset_held p h s;
          }

  -- a received frame whose numbers are in their ranges
  module _ (voiced : Bool) (c : SilkDecoderControl) (row : List ℤ)
      (fg : (k : ℕ) → k < p.subframes → Between 81920 1686110208 (get_or c.gains_q16 k (pos 0)))
      (fs : Between 0 16384 c.ltp_scale_q14)
      (fl : voiced ≡ true → (k : ℕ) → k < p.subframes → Between (2 * p.rate) (18 * p.rate) (get_or c.pitch_l k (pos 0)))
      (ft : voiced ≡ true → (k : ℕ) → k < p.subframes → SFits w16 (tap_sum c.ltp_coef_q14 k)) where
    gain : (k : ℕ) → k < p.subframes → Between 65536 1686110208 (get_or c.gains_q16 k (pos 0))
    gain k h = let g = fg k h in let l = g.low in record { is = g.is; low = omega arith; high = g.high }

    last-gains : AllBetween 65536 1686110208 (get_or c.gains_q16 (p.subframes - 2) (pos 0) ∷ get_or c.gains_q16 (p.subframes - 1) (pos 0) ∷ []) 2
    last-gains zero k = gain (p.subframes - 2) (omega (arith, s.count_low))
    last-gains (suc zero) k = gain (p.subframes - 1) (omega (arith, s.count_low))
    last-gains (suc (suc i)) k = absurd (omega arith)

    scale : Between 0 16384 (wrap16 c.ltp_scale_q14)
    scale =
        let u = fs.high in
        rw (wrap_id {w = w16} {z = c.ltp_scale_q14} (rw fs.is (record { sfits = omega arith }))) fs

    pub updated : PlcBounds p.rate (plc_updated p voiced c row (plc_ready p h))
    unfolding plc_updated
    updated =
        let g = readied in
        let q = pulsed p c (plc_ready p h).pitch_l_q8 s.rate_high (omega (arith, s.count_low)) g.1.pitch_l_q8 voiced fl ft in
        record {
          last_frame_lost = g.0.last_frame_lost;
          ltp_coef_q14 = record { first = refl; second = refl; low = q.tap_fits.low; high = q.tap_fits.high; fourth = refl; fifth = refl };
          rand_scale_q14 = g.0.rand_scale_q14;
          prev_ltp_scale_q14 = scale;
          conc_energy = g.0.conc_energy;
          conc_energy_shift = g.0.conc_energy_shift;
          held = λ k. record { pitch_l_q8 = q.pitch_fits; prev_gain_q16 = last-gains; subframes = whole s.count refl refl };
        }
