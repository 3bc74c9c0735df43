-- A lost frame keeps concealment's state accepted and in the ranges of its types; its samples, its lag.
use Prim.Native.Nat.{ℕ, zero, suc, ◌*◌, ◌<◌, ◌≤◌}
use mathlib.Core.Path.{◌≡◌, refl, ap, ◌∙◌}
use mathlib.Core.Bool.{Bool, true, false, cond}
use mathlib.Core.List.{List, map}
use native.Mathlib.Omega.{arith}
use lib.IntN.{ℤ, pos, nat_abs, ◌+ℤ◌}
use lib.ListN.{get_or, length, take, drop, get_or-replicate}
use lib.Seq.{ext_get_or}
use mir.Syntax.{w16, w32}
use mir.Val.{SFits}
use Rattle.word.specs.Int.{eq_ℤ}
use Rattle.word.proofs.Fits.{drop-fits}
use Rattle.macros.proofs.Ranges.{rand-fits}
use Rattle.sigproc.proofs.Filter.{memory_length}
use Rattle.sigproc.proofs.Shrink.{length-bwexpander}
use Rattle.sigproc.proofs.Ranges.{bwexpander-fits, synthesis-fits}
use Rattle.sigproc.proofs.Frames.{played-length, played-frame}
use Rattle.shape.specs.Shape.{Shape, mem_length, subfr_length, lpc_order, frame_length}
use Rattle.shape.proofs.Shapes.{Shaped}
use Rattle.decoder.specs.Typed.{Words, Typed, TypedControl}
use Rattle.decoder.specs.declared.SilkPLCState.{SilkPLCState}
use Rattle.decoder.specs.declared.SilkDecoderState.{SilkDecoderState}
use Rattle.decoder.specs.declared.SilkDecoderControl.{SilkDecoderControl}
use Rattle.decoder.proofs.Between.{Between}
use Rattle.decoder.proofs.Bounds.{TapBounds, PlcBounds}
use Rattle.decoder.proofs.Types.{zeros-words, replicate-words}
use Rattle.decoder.proofs.Built.{words, between_32, between_16, typed_memory, typed_losses, typed_plc}
use Rattle.plc.specs.Hold.{plc_ready}
use Rattle.plc.specs.Update.{middle}
use Rattle.plc.specs.Conceal.{Voice, later_gain, coefficients, noise_place, harm_gain, noise_gain, lag_of, excited, excited_times, faded, faded_voice, voices, voice_by, voice, signal_by, signal, concealed, held_after, plc_conceal}
use Rattle.plc.proofs.Tap.{Middle}
use Rattle.plc.proofs.Fading.{faded-upto, faded_tap, faded_zero}
use Rattle.plc.proofs.Drift.{drift, lag_range, noise_gain_lem, harm_gain_lem, noise_scale_lem}
use Rattle.plc.proofs.Types.{Ready, ready, hold_typed, hold-bounds, middle-bounds, middle-words, tap_fits}

-- five taps, the outer four 0
five : (taps : List ℤ) → length taps ≡ 5 → TapBounds taps → taps ≡ middle (get_or taps 2 (pos 0))
five taps e o = ext_get_or (pos 0) taps (middle (get_or taps 2 (pos 0))) e at
  where
    at : (i : ℕ) → i < length taps → get_or taps i (pos 0) ≡ get_or (middle (get_or taps 2 (pos 0))) i (pos 0)
    at zero h = o.first
    at (suc zero) h = o.second
    at (suc (suc zero)) h = refl
    at (suc (suc (suc zero))) h = o.fourth
    at (suc (suc (suc (suc zero)))) h = o.fifth
    at (suc (suc (suc (suc (suc i))))) h = absurd (omega arith)

-- what the subframes carry on is in range
pub record VoiceFits (r : ℕ) (v : Voice) : Type 0 where
  pub tap : ℤ
  pub taps : v.taps ≡ middle tap
  pub tap_held : Middle tap
  pub scale : Between 0 27840 v.scale
  pub pitch : Between (512 * r) (4608 * r) v.pitch
  pub seed : SFits w32 v.seed

excited-times : (r : ℕ) (exc : List ℤ) (from lag n : ℕ) (v : Voice) → VoiceFits r v → VoiceFits r (excited_times exc from lag n v)
unfolding excited_times excited
excited-times r exc from lag zero v k = k
excited-times r exc from lag (suc n) v k =
    let h = excited-times r exc from lag n v k in
    record { tap = h.tap; taps = h.taps; tap_held = h.tap_held; scale = h.scale; pitch = h.pitch; seed = rand-fits _ }

faded-voice : (r : ℕ) → r ≤ 16 → (harm noise : ℤ) → Between 0 32767 harm → Between 0 32767 noise → (v : Voice) → VoiceFits r v → VoiceFits r (faded_voice r harm noise v)
unfolding faded_voice
faded-voice r hr harm noise a b v k =
    record {
      tap = faded harm k.tap;
      taps = ap (map (faded harm)) k.taps ∙ simp (faded_zero);
      tap_held = rw a.is (faded_tap (nat_abs harm) k.tap (omega (arith, a.high)) k.tap_held);
      scale = rw (b.is, k.scale.is) (faded-upto 27840 (nat_abs noise) (nat_abs v.scale) (omega (arith, b.high)) k.scale.high (omega arith));
      pitch = rw k.pitch.is (drift r (nat_abs v.pitch) hr k.pitch.low k.pitch.high);
      seed = k.seed;
    }

voices-fit : (p : Shape) → p.rate ≤ 16 → (exc : List ℤ) (from : ℕ) (harm noise : ℤ) → Between 0 32767 harm → Between 0 32767 noise → (k : ℕ) (v : Voice) → VoiceFits p.rate v → VoiceFits p.rate (voices p exc from harm noise k v)
unfolding voices
voices-fit p hr exc from harm noise a b zero v h = h
voices-fit p hr exc from harm noise a b (suc k) v h =
    faded-voice p.rate hr harm noise a b _ (excited-times p.rate exc from _ (subfr_length p) _ (voices-fit p hr exc from harm noise a b k v h))

either : {n : ℕ} (t : Bool) {a b : List ℤ} → Words w16 n a → Words w16 n b → Words w16 n (cond t a b)
either true h k = h
either false h k = k

module _ (p : Shape) (q : Shaped p.rate p.subframes) (s : SilkDecoderState) (t : Typed s) where
  module _ (h : SilkPLCState) (k : Ready p.rate h) where
    pub voice-fits : VoiceFits p.rate (voice p s h)
    unfolding voice voice_by
    voice-fits =
        let b = get_or h.ltp_coef_q14 2 (pos 0) in
        let e = five h.ltp_coef_q14 k.typed.ltp_coef_q14.count k.bounds.ltp_coef_q14 in
        let l = k.bounds.prev_ltp_scale_q14 in
        let m : Middle b = record { high = k.bounds.ltp_coef_q14.high; low = k.bounds.ltp_coef_q14.low } in
        voices-fit p q.rate_high s.exc_q14 (noise_place p s h) (harm_gain s.loss_cnt) (noise_gain s.loss_cnt s.prev_signal_type s.settings.edition (take (lpc_order p) (coefficients p s h))) (harm_gain_lem s.loss_cnt) (noise_gain_lem s.loss_cnt s.prev_signal_type s.settings.edition (take (lpc_order p) (coefficients p s h))) p.subframes _
        (record {
          tap = b;
          taps = e;
          tap_held = m;
          scale = noise_scale_lem s.loss_cnt s.prev_signal_type h b (nat_abs h.prev_ltp_scale_q14) e m l.is l.high k.bounds.rand_scale_q14;
          pitch = k.at.pitch_l_q8;
          seed = k.typed.rand_seed;
        })

    -- the filter
    coefficients-fit : Words w16 16 (coefficients p s h)
    unfolding coefficients
    coefficients-fit =
        let w = either (eq_ℤ s.first_frame_after_reset (pos 0)) k.typed.prev_lpc_q12 (zeros-words 16) in
        words (length-bwexpander (pos 64881) _ (lpc_order p) ∙ w.count) (bwexpander-fits (pos 64881) _ (lpc_order p) w.fits)

    -- what concealment holds
    pub held_after_lem : Ready p.rate (held_after p s h)
    unfolding held_after
    held_after_lem =
        let v = voice-fits in
        hold-bounds k.bounds v.pitch (rw v.taps (middle-bounds v.tap v.tap_held)) v.scale k.bounds.prev_ltp_scale_q14 k.at.prev_gain_q16 k.at.subframes k.rate
        (hold_typed k.typed (between_32 v.pitch (omega (arith, q.rate_high))) (rw v.taps (middle-words v.tap (tap_fits v.tap v.tap_held.low v.tap_held.high))) coefficients-fit v.seed
        (between_16 v.scale (omega arith))
        k.typed.prev_ltp_scale_q14
        k.typed.prev_gain_q16
        k.typed.fs_khz
        k.typed.nb_subfr
        k.typed.subfr_length)

    memory_after : Words w32 16 (drop (frame_length p) (signal p s h))
    unfolding signal signal_by
    memory_after =
        let m = t.s_lpc_q14_buf in
        words (memory_length s.s_lpc_q14_buf _ (coefficients p s h) (lpc_order p) (frame_length p) ∙ m.count)
        (drop-fits (frame_length p) _ (synthesis-fits s.s_lpc_q14_buf _ (coefficients p s h) (lpc_order p) (frame_length p) m.fits))

    concealed-words : Words w16 (frame_length p) (concealed p s h)
    unfolding concealed signal signal_by
    concealed-words =
        let u = drop (mem_length p) (voice p s h).past in
        words (played-length (later_gain h) s.s_lpc_q14_buf u (coefficients p s h) (lpc_order p) (frame_length p) t.s_lpc_q14_buf.count)
        (played-frame (later_gain h) s.s_lpc_q14_buf u (coefficients p s h) (lpc_order p) (frame_length p))

    -- the last lag
    pub lag_after_lem : Between (2 * p.rate) (18 * p.rate) (lag_of (voice p s h).pitch)
    lag_after_lem = let v = voice-fits.pitch in rw v.is (lag_range p.rate _ v.low v.high)

  -- ---- the stage
  module _ (c : SilkDecoderControl) (bounds : PlcBounds p.rate s.s_plc) where
    held-ready : Ready p.rate (plc_ready p s.s_plc)
    held-ready = ready p s.s_plc q bounds t.s_plc

    pub conceal_bounds : PlcBounds p.rate (plc_conceal p s c).state.s_plc
    unfolding plc_conceal
    conceal_bounds = (held_after_lem (plc_ready p s.s_plc) held-ready).bounds

    pub conceal_typed : SFits w32 (s.loss_cnt +ℤ pos 1) → Typed (plc_conceal p s c).state
    unfolding plc_conceal
    conceal_typed loss =
        typed_plc (typed_losses (typed_memory t (memory_after (plc_ready p s.s_plc) held-ready)) loss) (held_after_lem (plc_ready p s.s_plc) held-ready).typed

    pub conceal_samples : Words w16 (frame_length p) (plc_conceal p s c).samples
    unfolding plc_conceal
    conceal_samples = concealed-words (plc_ready p s.s_plc) held-ready

    pub conceal_lag : (i : ℕ) → i < 4 → Between (2 * p.rate) (18 * p.rate) (get_or (plc_conceal p s c).control.pitch_l i (pos 0))
    unfolding plc_conceal
    conceal_lag i h =
        let l = lag_of (voice p s (plc_ready p s.s_plc)).pitch in
        rw (get_or-replicate 4 i l (pos 0) h) (lag_after_lem (plc_ready p s.s_plc) held-ready)

    pub conceal_control : TypedControl c → TypedControl (plc_conceal p s c).control
    unfolding plc_conceal
    conceal_control tc =
        let l = lag_after_lem (plc_ready p s.s_plc) held-ready in
        record {
          pitch_l = replicate-words 4 (between_32 l (omega (arith, q.rate_high)));
          gains_q16 = tc.gains_q16;
          ltp_coef_q14 = tc.ltp_coef_q14;
          ltp_scale_q14 = tc.ltp_scale_q14;
        }
