-- The reset and the update after a received frame keep concealment's state in the ranges of its types.
use Prim.Native.Nat.{ℕ, ◌*◌, ◌^◌, ◌<◌, ◌≤◌}
use mathlib.Core.Path.{◌≡◌, refl}
use mathlib.Core.Bool.{Bool, true, false, cond}
use mathlib.Core.List.{List, [], ◌∷◌}
use native.Mathlib.Omega.{arith}
use lib.IntN.{ℤ, pos}
use lib.ListN.{get_or, take, replicate}
use mir.Syntax.{w16, w32}
use mir.Val.{SFits}
use Rattle.word.specs.Int.{eq_ℤ}
use Rattle.word.proofs.Words.{wrap-fits}
use Rattle.word.proofs.Fits.{zero_fits, nil_fits, cons_fits, set-fits, replicate-fits}
use Rattle.word.proofs.Parts.{P, N}
use Rattle.word.proofs.Sizes.{abs-parts, abs-fits}
use Rattle.shape.specs.Shape.{Shape, lpc_order, frame_length}
use Rattle.shape.proofs.Shapes.{Shaped}
use Rattle.decoder.specs.Typed.{Words, TypedPlc}
use Rattle.decoder.specs.declared.SilkPLCState.{SilkPLCState}
use Rattle.decoder.specs.declared.SilkDecoderControl.{SilkDecoderControl}
use Rattle.decoder.proofs.Between.{Between, AllBetween}
use Rattle.decoder.proofs.Bounds.{TapBounds, SubframeBounds, PlcHeldBounds, PlcBounds}
use Rattle.decoder.proofs.Types.{take_words}
use Rattle.decoder.proofs.Built.{words, words-front, between_32}
use Rattle.judge.specs.Taps.{tap_sum}
use Rattle.plc.specs.Hold.{hold, plc_reset, plc_ready}
use Rattle.plc.specs.Update.{middle, plc_updated}
use Rattle.plc.proofs.Tap.{Middle}
use Rattle.plc.proofs.Updated.{readied, updated}

-- concealment's state at its own rate: all of row 3, and the types
pub record Ready (r : ℕ) (h : SilkPLCState) : Type 0 where
  pub bounds : PlcBounds r h
  pub at : PlcHeldBounds r h
  pub typed : TypedPlc h
  pub rate : h.fs_khz ≡ pos r

-- what update and concealment may change
pub hold_typed : {h : SilkPLCState} {pitch : ℤ} {taps lpc : List ℤ} {seed scale ltp : ℤ} {gains : List ℤ} {rate n l : ℤ} → TypedPlc h → SFits w32 pitch → Words w16 5 taps → Words w16 16 lpc → SFits w32 seed → SFits w16 scale
    → SFits w16 ltp → Words w32 2 gains → SFits w32 rate → SFits w32 n → SFits w32 l → TypedPlc (hold h pitch taps lpc seed scale ltp gains rate n l)
hold_typed t pitch taps lpc seed scale ltp gains rate n l =
    record {
      pitch_l_q8 = pitch;
      ltp_coef_q14 = taps;
      prev_lpc_q12 = lpc;
      last_frame_lost = t.last_frame_lost;
      rand_seed = seed;
      rand_scale_q14 = scale;
      conc_energy = t.conc_energy;
      conc_energy_shift = t.conc_energy_shift;
      prev_ltp_scale_q14 = ltp;
      prev_gain_q16 = gains;
      fs_khz = rate;
      nb_subfr = n;
      subfr_length = l;
    }

pub hold-bounds : {r : ℕ} {h : SilkPLCState} {pitch : ℤ} {taps lpc : List ℤ} {seed scale ltp : ℤ} {gains : List ℤ} {rate n l : ℤ} → PlcBounds r h → Between (512 * r) (4608 * r) pitch → TapBounds taps → Between 0 27840 scale → Between 0 16384 ltp
    → AllBetween 65536 1686110208 gains 2 → SubframeBounds r n l → rate ≡ pos r → TypedPlc (hold h pitch taps lpc seed scale ltp gains rate n l) → Ready r (hold h pitch taps lpc seed scale ltp gains rate n l)
hold-bounds k pitch taps scale ltp gains subframes rate t =
    record {
      bounds =
          record {
            last_frame_lost = k.last_frame_lost;
            ltp_coef_q14 = taps;
            rand_scale_q14 = scale;
            prev_ltp_scale_q14 = ltp;
            conc_energy = k.conc_energy;
            conc_energy_shift = k.conc_energy_shift;
            held = λ e. record { pitch_l_q8 = pitch; prev_gain_q16 = gains; subframes = subframes };
          };
      at = record { pitch_l_q8 = pitch; prev_gain_q16 = gains; subframes = subframes };
      typed = t;
      rate = rate;
    }

pair_fits : {a b : ℤ} → SFits w32 a → SFits w32 b → Words w32 2 (a ∷ b ∷ [])
pair_fits {a} {b} h k = words refl (cons_fits (b ∷ []) h (cons_fits [] k nil_fits))

-- ---- five taps of which the middle one counts
pub middle-bounds : (b : ℤ) → Middle b → TapBounds (middle b)
middle-bounds b t = record { first = refl; second = refl; low = t.low; high = t.high; fourth = refl; fifth = refl }

pub middle-words : (b : ℤ) → SFits w16 b → Words w16 5 (middle b)
middle-words b f = words refl (set-fits (replicate 5 (pos 0)) 2 (replicate-fits 5 (zero_fits w16)) f)

pub tap_fits : (b : ℤ) → N b ≤ 11456 → P b ≤ 15565 → SFits w16 b
tap_fits b l h = abs-fits b (omega (arith, abs-parts b))

module _ (p : Shape) (h : SilkPLCState) (q : Shaped p.rate p.subframes) (b : PlcBounds p.rate h) (t : TypedPlc h) where
  reset_typed : TypedPlc (plc_reset p h)
  unfolding plc_reset
  reset_typed =
      let high = q.frame_high in
      let top = q.rate_high in
      hold_typed t (abs-fits (pos (frame_length p * 2 ^ 7)) (omega arith)) t.ltp_coef_q14 t.prev_lpc_q12 t.rand_seed t.rand_scale_q14 t.prev_ltp_scale_q14
      (pair_fits (abs-fits (pos 65536) (omega arith)) (abs-fits (pos 65536) (omega arith)))
      (abs-fits (pos p.rate) (omega arith))
      (abs-fits (pos 2) (omega arith))
      (abs-fits (pos 20) (omega arith))

  ready_typed : TypedPlc (plc_ready p h)
  unfolding plc_ready
  ready_typed = go (eq_ℤ (pos p.rate) h.fs_khz)
    where
      go : (x : Bool) → TypedPlc (cond x h (plc_reset p h))
      go true = t
      go false = reset_typed

  pub ready : Ready p.rate (plc_ready p h)
  ready = let r = readied p h q b in record { bounds = r.0; at = r.1; typed = ready_typed; rate = r.2 }

  -- a received frame whose numbers are in their ranges
  module _ (voiced : Bool) (c : SilkDecoderControl) (row : List ℤ) (tr : Words w16 16 row)
      (fg : (k : ℕ) → k < p.subframes → Between 81920 1686110208 (get_or c.gains_q16 k (pos 0)))
      (fs : Between 0 16384 c.ltp_scale_q14)
      (fl : voiced ≡ true → (k : ℕ) → k < p.subframes → Between (2 * p.rate) (18 * p.rate) (get_or c.pitch_l k (pos 0)))
      (ft : voiced ≡ true → (k : ℕ) → k < p.subframes → SFits w16 (tap_sum c.ltp_coef_q14 k)) where
    pub updated_typed : TypedPlc (plc_updated p voiced c row (plc_ready p h))
    unfolding plc_updated
    updated_typed =
        let k = ready in
        let u = updated p h q b voiced c row fg fs fl ft in
        let a = u.held k.rate in
        let gain = a.prev_gain_q16 in
        hold_typed k.typed (between_32 a.pitch_l_q8 (omega (arith, q.rate_high))) (middle-words _ (tap_fits _ u.ltp_coef_q14.low u.ltp_coef_q14.high))
        (words-front (take (lpc_order p) row) (plc_ready p h).prev_lpc_q12 (take_words (lpc_order p) row q.order_high tr) k.typed.prev_lpc_q12 q.order_high)
        k.typed.rand_seed
        k.typed.rand_scale_q14
        (wrap-fits w16 _)
        (pair_fits (between_32 (gain 0 (omega arith)) (omega arith)) (between_32 (gain 1 (omega arith)) (omega arith)))
        k.typed.fs_khz
        (abs-fits _ (omega (arith, q.count_high)))
        (abs-fits _ (omega (arith, q.rate_high)))
