-- Document 01, "Excitation and synthesis": a received frame's samples (decode_core.rs).
use Rattle.std.specs.Prelude.{ℕ, zero, suc, ◌+◌, ◌-◌, ◌*◌, ◌/◌, ◌^◌, Bool, cond, not, ◌&&◌, ◌||◌, List, [], ◌∷◌, ◌++◌, map, eqb, ltb, ℤ, pos, nat_abs, ◌*ℤ◌, get_or, set, length, take, drop, replicate}
use Rattle.std.specs.Bool.{then_some}
use Rattle.std.specs.Option.{is_some, unwrap_or}
use Rattle.std.specs.Int.Signed.{lt_z}
use Rattle.word.specs.Int.{eq_ℤ, wrap32}
use Rattle.word.specs.Tabulate.{tabulate}
use Rattle.macros.specs.Fixed.{smulww, smulwb, add_lshift32}
use Rattle.macros.specs.Quotient.{inverse32_varq, div32_varq}
use Rattle.sigproc.specs.Place.{put_at}
use Rattle.sigproc.specs.Analysis.{residual}
use Rattle.sigproc.specs.Synthesis.{ltp_prediction, synthesis, played}
use Rattle.shape.specs.Shape.{Shape, subfr_length, frame_length, mem_length, lpc_order}
use Rattle.decoder.specs.Signals.{is_voiced}
use Rattle.decoder.specs.Ranges.{within}
use Rattle.decoder.specs.With.{with_gain, with_exc, with_memory, with_out_buf}
use Rattle.decoder.specs.Outcome.{Outcome}
use Rattle.decoder.specs.declared.SilkDecoderState.{SilkDecoderState}
use Rattle.decoder.specs.declared.SilkDecoderControl.{SilkDecoderControl}
use Rattle.decoder.specs.declared.Params.{Params}
use Rattle.excitation.specs.Excitation.{offset_q14, excitation}
use Rattle.decode_core.specs.declared.Setting.{Setting}

-- what the subframes carry on
pub record Core : Type 0 where
  pub control : SilkDecoderControl
  -- the long-term state (Q15): places that no rewhitening filled are 0
  pub past : List ℤ
  -- the short-term memory, 16 samples (Q14)
  pub memory : List ℤ
  -- the gain of the subframe before
  pub gain : ℤ
  -- out_buf
  pub buffer : List ℤ
  -- the samples played so far
  pub samples : List ℤ

-- a frame that is not voiced comes after the loss of a voiced one
unfoldable pub transition : SilkDecoderState → Bool → Bool
transition s voiced = lt_z (pos 0) s.loss_cnt && eq_ℤ s.prev_signal_type (pos 2) && not voiced

-- subframe k voiced at a lag, middle tap 4,096
unfoldable pub smoothed : SilkDecoderControl → ℤ → ℕ → SilkDecoderControl
smoothed c lag k =
    record {
      pitch_l = set c.pitch_l k lag;
      gains_q16 = c.gains_q16;
      ltp_coef_q14 = put_at c.ltp_coef_q14 (5 * k) (pos 0 ∷ pos 0 ∷ pos 4096 ∷ pos 0 ∷ pos 0 ∷ []);
      ltp_scale_q14 = c.ltp_scale_q14;
    }

-- the last m places filled anew, each by its place
unfoldable pub refilled : List ℤ → ℕ → (ℕ → ℤ) → List ℤ
refilled past m f =
    let from = length past - m in
    take from past ++ tabulate m (λ t. f (from + t))

-- the excitation e and twice the prediction by five taps, the middle one a lag before
unfoldable pub ltp_sample : List ℤ → List ℤ → ℕ → ℤ → ℤ
ltp_sample past taps lag e = add_lshift32 e (ltp_prediction past taps (length past - lag + 2) 5) (pos 1)

-- the long-term state after n samples
unfoldable pub ltp_past : List ℤ → List ℤ → ℕ → List ℤ → ℕ → List ℤ
ltp_past past taps lag e zero = past
ltp_past past taps lag e (suc i) =
    let q = ltp_past past taps lag e i in
    q ++ wrap32 (ltp_sample q taps lag (get_or e i (pos 0)) *ℤ pos 2) ∷ []

-- the first n samples of the residual
unfoldable pub ltp_synthesis : List ℤ → List ℤ → ℕ → List ℤ → ℕ → List ℤ
ltp_synthesis past taps lag e zero = []
ltp_synthesis past taps lag e (suc i) =
    ltp_synthesis past taps lag e i ++ ltp_sample (ltp_past past taps lag e i) taps lag (get_or e i (pos 0)) ∷ []

-- the change of gain between two subframes (Q16)
unfoldable pub gain_adjustment : ℤ → ℤ → ℤ
gain_adjustment last gain = cond (eq_ℤ gain last) (pos 65536) (div32_varq last gain (pos 16))

-- the inverse of subframe k's gain (Q31), in subframe 0 times the LTP scale
unfoldable pub inverse_gain_q31 : SilkDecoderControl → ℕ → ℤ
inverse_gain_q31 c k =
    let inverse = inverse32_varq (get_or c.gains_q16 k (pos 0)) (pos 47) in
    cond (eqb k 0) (wrap32 (smulwb inverse c.ltp_scale_q14 *ℤ pos (2 ^ 2))) inverse

-- what the subframes of a frame share; an interpolation below 4 is 0 to 3, since row 5 refuses all but 0 to 4
unfoldable pub setting_of : Shape → SilkDecoderState → Params → Setting
setting_of p s q =
    let voiced = is_voiced q.signal in
    record {
      nb_subfr = p.subframes;
      subfr_length = subfr_length p;
      ltp_mem_length = mem_length p;
      lpc_order = lpc_order p;
      voiced = voiced;
      interpolated = within (pos 0) (pos 3) q.nlsf_interp_coef_q2;
      transition = then_some (transition s voiced) s.lag_prev;
    }

module _ (f : Setting) where
  -- the frame is one of a transition
  abbrev pub transits : Bool
  transits = is_some f.transition

  -- and its lag
  abbrev pub held_lag : ℤ
  held_lag = unwrap_or f.transition (pos 0)

  -- subframe k is one of the first two of a transition
  abbrev pub smooth : ℕ → Bool
  smooth k = transits && ltb k 2

  -- subframe k is played with long-term prediction
  abbrev pub long : ℕ → Bool
  long k = smooth k || f.voiced

  -- rewhitening runs in subframe 0, and in 2 when interpolation is below 4
  abbrev pub rewhitens : ℕ → Bool
  rewhitens k = eqb k 0 || (eqb k 2 && f.interpolated)

  unfoldable pub control_at : SilkDecoderControl → ℕ → SilkDecoderControl
  control_at c k = cond (smooth k) (smoothed c held_lag k) c

  -- the history that rewhitening reads: for subframe 2 the first two subframes follow it
  unfoldable pub buffer_at : ℕ → List ℤ → List ℤ → List ℤ
  buffer_at k buffer samples = cond (eqb k 2) (put_at buffer f.ltp_mem_length samples) buffer

  -- the long-term state that subframe k starts from: rewhitened by a coefficient row, or by the change of gain
  unfoldable pub past_at : SilkDecoderControl → ℕ → List ℤ → ℤ → List ℤ → List ℤ → List ℤ
  past_at c k row adjustment buffer past =
      let lag = nat_abs (get_or c.pitch_l k (pos 0)) in
      cond (rewhitens k) (refilled past (lag + 2) (λ i. smulwb (inverse_gain_q31 c k) (residual buffer row f.lpc_order i)))
      (refilled past (lag + 2) (λ i. smulww adjustment (get_or past i (pos 0))))

-- the coefficient rows and the excitation of the frame
module _ (f : Setting) (rows : List (List ℤ)) (exc : List ℤ) where
  unfoldable pub subframe : ℕ → Core → Core
  subframe k b =
      let n = f.subfr_length in
      let c = control_at f b.control k in
      -- subframes 0, 1 take the first of two coefficient rows, 2, 3 the second
      let row = get_or rows (k / 2) [] in
      let e = take n (drop (n * k) exc) in
      let gain = get_or c.gains_q16 k (pos 0) in
      let adjustment = gain_adjustment b.gain gain in
      let lag = nat_abs (get_or c.pitch_l k (pos 0)) in
      let taps = take 5 (drop (5 * k) c.ltp_coef_q14) in
      let buffer = buffer_at f k b.buffer b.samples in
      let past = past_at f c k row adjustment buffer b.past in
      let res = cond (long f k) (ltp_synthesis past taps lag e n) e in
      let signal = synthesis (map (smulww adjustment) b.memory) res row f.lpc_order n in
      record {
        control = c;
        past = cond (long f k) (ltp_past past taps lag e n) b.past;
        memory = drop n signal;
        gain = gain;
        buffer = cond (long f k && rewhitens f k) buffer b.buffer;
        samples = b.samples ++ map (played gain) (drop 16 signal);
      }

  -- after k subframes
  unfoldable pub subframes : Core → ℕ → Core
  subframes b zero = b
  subframes b (suc k) = subframe k (subframes b k)

-- what the first subframe starts from
unfoldable pub start : Shape → SilkDecoderState → SilkDecoderControl → Core
start p s c =
    record {
      control = c;
      past = replicate (mem_length p) (pos 0);
      memory = s.s_lpc_q14_buf;
      gain = s.prev_gain_q16;
      buffer = s.out_buf;
      samples = [];
    }

-- the excitation of a received frame
unfoldable pub core_excitation : Shape → Params → List ℤ → List ℤ
core_excitation p q pulses =
    excitation (offset_q14 (is_voiced q.signal) q.quant_offset_type) pulses q.seed (frame_length p)

-- silk_decode_core
unfoldable pub decode_core : Shape → SilkDecoderState → Params → SilkDecoderControl → List (List ℤ) → List ℤ → Outcome
decode_core p s q c rows pulses =
    let exc = core_excitation p q pulses in
    let b = subframes (setting_of p s q) rows exc (start p s c) p.subframes in
    record {
      state = with_out_buf (with_memory (with_exc (with_gain s b.gain) (exc ++ drop (frame_length p) s.exc_q14)) b.memory) b.buffer;
      control = b.control;
      samples = b.samples;
    }
