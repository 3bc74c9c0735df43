-- Document 01, "A lost frame": concealment (plc.rs, silk_plc_energy and silk_plc_conceal).
use Rattle.std.specs.Prelude.{ℕ, zero, suc, ◌+◌, ◌-◌, ◌*◌, ◌^◌, ◌≡◌, Bool, cond, List, [], ◌∷◌, ◌++◌, map, ltb, ℤ, pos, nat_abs, ◌+ℤ◌, ◌-ℤ◌, ◌*ℤ◌, get_or, length, take, drop, replicate}
use Rattle.std.specs.Int.Signed.{lt_z}
use Rattle.word.specs.Int.{floor_div, mod_ℤ, eq_ℤ, wrap16, wrap32, sat16, min_ℤ, max_ℤ}
use Rattle.word.specs.Tabulate.{tabulate}
use Rattle.macros.specs.Fixed.{smulww, smulwb, smulbb, smlawb, rand, rshift_round}
use Rattle.macros.specs.Quotient.{inverse32_varq}
use Rattle.sigproc.specs.Analysis.{residual}
use Rattle.sigproc.specs.Energy.{energy_at, energy_shift}
use Rattle.sigproc.specs.Expand.{bwexpander}
use Rattle.sigproc.specs.Synthesis.{ltp_prediction, synthesis, played}
use Rattle.stability.specs.Stability.{stability, inverse_gain}
use Rattle.shape.specs.Shape.{Shape, subfr_length, frame_length, mem_length, lpc_order}
use Rattle.decoder.specs.With.{with_memory, with_losses, with_plc}
use Rattle.decoder.specs.Ranges.{within}
use Rattle.decoder.specs.Outcome.{Outcome}
use Rattle.decoder.specs.declared.SilkPLCState.{SilkPLCState}
use Rattle.decoder.specs.declared.SilkDecoderState.{SilkDecoderState}
use Rattle.decoder.specs.declared.SilkDecoderControl.{SilkDecoderControl}
use Rattle.judge.specs.Taps.{tap_sum}
use Rattle.plc.specs.declared.conceal.VoiceState.{VoiceState}
use Rattle.plc.specs.declared.conceal.Concealed.{Concealed}
use Rattle.plc.specs.Hold.{hold, plc_ready}

-- a lag (Q8) lies in 2 to 18 ms at a rate
abbrev pub pitched : ℕ → ℤ → Bool
pitched r pitch = within (pos (512 * r)) (pos (4608 * r)) pitch

-- every element is 0
abbrev pub AllZero : List ℤ → Type 0
AllZero xs = (i : ℕ) → get_or xs i (pos 0) ≡ pos 0

-- excitation as it was played by a gain (Q16)
unfoldable pub heard_by : ℤ → List ℤ → List ℤ
heard_by gain exc = map (λ e. sat16 (floor_div (smulww e (floor_div gain (2 ^ 6))) (2 ^ 8))) exc

-- the last two subframes, k 0 the older one
unfoldable pub heard : Shape → SilkDecoderState → SilkPLCState → ℕ → List ℤ
heard p s h k =
    heard_by (get_or h.prev_gain_q16 k (pos 0)) (take (subfr_length p) (drop ((k + p.subframes - 2) * subfr_length p) s.exc_q14))

-- the older energy is the smaller: each is shifted by the other's shift
unfoldable pub older_smaller : List ℤ → List ℤ → Bool
older_smaller old new =
    let o = energy_shift old in
    let n = energy_shift new in
    lt_z (floor_div (pos (energy_at old o)) (2 ^ n)) (floor_div (pos (energy_at new n)) (2 ^ o))

-- where noise is drawn from: max(0, m l - 128), m concealment's subframes, or one less; l its subframe length
unfoldable pub place_from : List ℤ → List ℤ → ℤ → ℤ → ℕ
place_from old new m l = cond (older_smaller old new) (nat_abs m - 1) (nat_abs m) * nat_abs l - 128

unfoldable pub noise_place : Shape → SilkDecoderState → SilkPLCState → ℕ
noise_place p s h = place_from (heard p s h 0) (heard p s h 1) h.nb_subfr h.subfr_length

-- the first loss in a row, by the losses before it
abbrev pub first : ℤ → Bool
first losses = eq_ℤ losses (pos 0)

-- the last received frame was voiced, by its type
abbrev pub was_voiced : ℤ → Bool
was_voiced type = eq_ℤ type (pos 2)

-- the taps' gain (Q15) from subframe to subframe
unfoldable pub harm_gain : ℤ → ℤ
harm_gain losses = cond (first losses) (pos 32440) (pos 31130)

-- the filter that concealment goes on from: the one held, all 0 while no frame was received
abbrev pub filter_held : SilkDecoderState → SilkPLCState → List ℤ
filter_held s h = cond (eq_ℤ s.first_frame_after_reset (pos 0)) h.prev_lpc_q12 (replicate 16 (pos 0))

-- the filter of a lost frame: shrunk by 64,881
unfoldable pub coefficients : Shape → SilkDecoderState → SilkPLCState → List ℤ
coefficients p s h = bwexpander (pos 64881) (filter_held s h) (lpc_order p)

-- the noise's gain (Q15) from subframe to subframe; at the first loss after a frame that was not voiced, less for a filter a that is
-- strong by an edition's test
unfoldable pub noise_gain : ℤ → ℤ → ℤ → List ℤ → ℤ
noise_gain losses type edition a =
    cond (was_voiced type) (cond (first losses) (pos 31130) (pos 26214))
    (cond (first losses) (floor_div (smulwb (max_ℤ (pos (2 ^ 22)) (min_ℤ (pos (2 ^ 27)) (inverse_gain (stability edition a))) *ℤ pos (2 ^ 3)) (pos 32440)) (2 ^ 14))
    (pos 29491))

-- the noise's scale (Q14) that the frame starts with
unfoldable pub noise_scale : ℤ → ℤ → SilkPLCState → ℤ
noise_scale losses type h =
    cond (first losses)
    (cond (was_voiced type) (wrap16 (floor_div (smulbb (max_ℤ (pos 16384 -ℤ tap_sum h.ltp_coef_q14 0) (pos 3277)) h.prev_ltp_scale_q14) (2 ^ 14)))
    (pos 16384))
    h.rand_scale_q14

-- the later of the two gains
abbrev pub later_gain : SilkPLCState → ℤ
later_gain h = get_or h.prev_gain_q16 1 (pos 0)

-- its inverse (Q30), limited
unfoldable pub inverse_gain_q30 : SilkPLCState → ℤ
inverse_gain_q30 h = min_ℤ (inverse32_varq (later_gain h) (pos 46)) (pos 1073741823)

-- what the subframes carry on
pub record Voice : Type 0 where
  -- the long-term history (Q14), then the excitation made so far
  pub past : List ℤ
  pub taps : List ℤ
  -- the noise's scale (Q14)
  pub scale : ℤ
  -- the lag (Q8)
  pub pitch : ℤ
  pub seed : ℤ

abbrev pub voice_of : List ℤ → VoiceState → Voice
voice_of past k =
    record { past = past; taps = k.taps; scale = k.scale_q14; pitch = k.pitch_q8; seed = k.seed }

-- a lag (Q8) rounded
abbrev pub lag_of : ℤ → ℤ
lag_of pitch = rshift_round pitch (pos 8)

-- the history x rewhitened by the filter a and divided by the gain; 0 in places that no prediction reads
unfoldable pub rewhitened : Shape → List ℤ → List ℤ → SilkPLCState → List ℤ
rewhitened p x a h =
    let mem = mem_length p in
    tabulate mem (λ i. cond (ltb i (mem - nat_abs (lag_of h.pitch_l_q8) - 2)) (pos 0) (smulwb (inverse_gain_q30 h) (residual (take mem x) a (lpc_order p) i)))

-- a sample of excitation: the prediction, and noise drawn from exc by the generator's top 7 bits
unfoldable pub excited : List ℤ → ℕ → ℕ → Voice → Voice
excited exc from lag v =
    let g = rand v.seed in
    let noise = get_or exc (from + mod_ℤ (floor_div g (2 ^ 25)) 128) (pos 0) in
    let prediction = ltp_prediction v.past v.taps (length v.past - lag + 2) 5 in
    record {
      past = v.past ++ wrap32 (smlawb prediction noise v.scale *ℤ pos 4) ∷ [];
      taps = v.taps;
      scale = v.scale;
      pitch = v.pitch;
      seed = g;
    }

unfoldable pub excited_times : List ℤ → ℕ → ℕ → ℕ → Voice → Voice
excited_times exc from lag zero v = v
excited_times exc from lag (suc n) v = excited exc from lag (excited_times exc from lag n v)

-- a number times a gain (Q15), rounded down
unfoldable pub faded : ℤ → ℤ → ℤ
faded gain x = wrap16 (floor_div (smulbb gain x) (2 ^ 15))

-- after a subframe: taps and noise fade, and pitch grows by 655/65,536 of itself, capped at 18r
unfoldable pub faded_voice : ℕ → ℤ → ℤ → Voice → Voice
faded_voice r harm noise v =
    record {
      past = v.past;
      taps = map (faded harm) v.taps;
      scale = faded noise v.scale;
      pitch = min_ℤ (smlawb v.pitch v.pitch (pos 655)) (pos (4608 * r));
      seed = v.seed;
    }

-- after k subframes
unfoldable pub voices : Shape → List ℤ → ℕ → ℤ → ℤ → ℕ → Voice → Voice
voices p exc from harm noise zero v = v
voices p exc from harm noise (suc k) v =
    let w = voices p exc from harm noise k v in
    faded_voice p.rate harm noise (excited_times exc from (nat_abs (lag_of w.pitch)) (subfr_length p) w)

-- a frame's excitation, and what is carried on after it, by the losses before it, the last type, the edition, the excitation and the
-- samples held, the filter, and where noise is drawn from
unfoldable pub voice_by : Shape → ℤ → ℤ → ℤ → List ℤ → List ℤ → List ℤ → ℕ → SilkPLCState → Voice
voice_by p losses type edition exc x a from h =
    voices p exc from (harm_gain losses) (noise_gain losses type edition (take (lpc_order p) a)) p.subframes
    (record {
      past = rewhitened p x a h;
      taps = h.ltp_coef_q14;
      scale = noise_scale losses type h;
      pitch = h.pitch_l_q8;
      seed = h.rand_seed;
    })

unfoldable pub voice : Shape → SilkDecoderState → SilkPLCState → Voice
voice p s h =
    voice_by p s.loss_cnt s.prev_signal_type s.settings.edition s.exc_q14 s.out_buf (coefficients p s h) (noise_place p s h) h

-- the memory of 16 samples (Q14), and the frame's, by its excitation
unfoldable pub signal_by : Shape → Voice → List ℤ → List ℤ → List ℤ
signal_by p v memory a = synthesis memory (drop (mem_length p) v.past) a (lpc_order p) (frame_length p)

unfoldable pub signal : Shape → SilkDecoderState → SilkPLCState → List ℤ
signal p s h = signal_by p (voice p s h) s.s_lpc_q14_buf (coefficients p s h)

-- the concealed samples, before comfort noise
unfoldable pub concealed : Shape → SilkDecoderState → SilkPLCState → List ℤ
concealed p s h = map (played (later_gain h)) (drop 16 (signal p s h))

-- what concealment holds after a frame
abbrev pub held_by : Voice → List ℤ → SilkPLCState → SilkPLCState
held_by v a h =
    hold h v.pitch v.taps a v.seed v.scale h.prev_ltp_scale_q14 h.prev_gain_q16 h.fs_khz h.nb_subfr h.subfr_length

unfoldable pub held_after : Shape → SilkDecoderState → SilkPLCState → SilkPLCState
held_after p s h = held_by (voice p s h) (coefficients p s h) h

-- what a frame leaves beside its samples
unfoldable pub concealed_by : Shape → Voice → List ℤ → List ℤ → SilkPLCState → Concealed
concealed_by p v memory a h =
    record { plc = held_by v a h; memory = drop (frame_length p) (signal_by p v memory a); lag = lag_of v.pitch }

-- a description with all four lags the same
abbrev pub lagged : SilkDecoderControl → ℤ → SilkDecoderControl
lagged c lag =
    record {
      pitch_l = replicate 4 lag;
      gains_q16 = c.gains_q16;
      ltp_coef_q14 = c.ltp_coef_q14;
      ltp_scale_q14 = c.ltp_scale_q14;
    }

-- silk_plc for a lost frame
unfoldable pub plc_conceal : Shape → SilkDecoderState → SilkDecoderControl → Outcome
plc_conceal p s c =
    let h = plc_ready p s.s_plc in
    record {
      state = with_plc (with_losses (with_memory s (drop (frame_length p) (signal p s h))) (s.loss_cnt +ℤ pos 1)) (held_after p s h);
      control = lagged c (lag_of (voice p s h).pitch);
      samples = concealed p s h;
    }
