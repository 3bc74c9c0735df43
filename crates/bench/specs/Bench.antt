-- Document 01, "The post's test bench": the P rows, in its order.
use Rattle.std.specs.Prelude.{ℕ, ◌<◌, ◌≡◌, List, [], ◌∷◌, ◌++◌, ℤ, pos, negsuc, get_or, length, replicate, Ok}
use Rattle.std.specs.Result.{result_unwrap_or}
use Rattle.word.specs.Row.{Row, row}
use Rattle.macros.specs.Fixed.{rand, sqrt_approx}
use Rattle.macros.specs.Quotient.{inverse32_varq}
use Rattle.stability.specs.Stability.{Stability, answer_number, answer_value, tested}
use Rattle.shape.specs.Shape.{frame_length}
use Rattle.decoder.specs.State.{shape_of}
use Rattle.edition.specs.Edition.{newer}
use Rattle.decoder.specs.SetUp.{silk_default, set_up_with}
use Rattle.decoder.specs.With.{with_plc}
use Rattle.decoder.specs.Outcome.{Outcome}
use Rattle.decoder.specs.declared.SilkDecoderState.{SilkDecoderState}
use Rattle.decoder.specs.declared.SilkDecoderControl.{SilkDecoderControl}
use Rattle.decoder.specs.declared.Params.{Params}
use Rattle.decoder.specs.declared.Signal.TheVariants.{Voiced}
use Rattle.decode_core.specs.Core.{decode_core}
use Rattle.plc.specs.Hold.{hold, plc_reset}
use Rattle.plc.specs.Update.{middle, plc_update}
use Rattle.plc.specs.Conceal.{plc_conceal}
use Rattle.cng.specs.Noise.{exc_mask, comfort_noise}

-- the state after a set-up with squelch 0, as the Rust has none; it takes every shape of the bench
abbrev start : ℤ → ℤ → SilkDecoderState
start khz nb = result_unwrap_or (set_up_with khz nb (record { squelch = pos 0; edition = newer })) silk_default

-- a description with a sum of taps in each subframe
abbrev description : ℤ → SilkDecoderControl
description sum =
    record {
      pitch_l = replicate 4 (pos 288);
      gains_q16 = replicate 4 (pos 81920);
      ltp_coef_q14 = middle sum ++ middle sum ++ middle sum ++ middle sum;
      ltp_scale_q14 = pos 16384;
    }

-- coefficient rows of 0
abbrev rows : List (List ℤ)
rows = replicate 2 (replicate 16 (pos 0))

-- the first sample of excitation that core leaves of a frame of type 2 and offset type 0, by its seed and its first pulse
abbrev excitation_after : ℤ → ℤ → ℤ
excitation_after seed pulse =
    let s = start (pos 16) (pos 4) in
    let q : Params = record { signal = Voiced; quant_offset_type = pos 0; nlsf_interp_coef_q2 = pos 4; seed = seed } in
    get_or (decode_core (shape_of s) s q (description (pos 0)) rows (pulse ∷ replicate 319 (pos 0))).state.exc_q14 0 (pos 0)

-- the stability test's answer to a filter of order 1: document 02's number, and the inverse gain or the step
abbrev answer_of : ℤ → Stability
answer_of a = result_unwrap_or (tested (a ∷ []) 1) (Ok (pos 0))

abbrev reason_of : ℤ → ℤ
reason_of a = pos (answer_number (answer_of a))

abbrev value_of : ℤ → ℤ
value_of a = answer_value (answer_of a)

-- the middle tap that concealment holds after a voiced frame, by its sum of taps
abbrev tap_after : ℤ → ℤ
tap_after sum =
    let s = start (pos 16) (pos 4) in
    get_or (plc_update (shape_of s) s Voiced (description sum) rows).s_plc.ltp_coef_q14 2 (pos 0)

-- a state at 16 kHz whose concealment holds a pitch (Q8)
abbrev pitched : ℤ → ℤ → SilkDecoderState
pitched nb pitch =
    let s = start (pos 16) nb in
    let h = plc_reset (shape_of s) s.s_plc in
    with_plc s
    (hold h pitch h.ltp_coef_q14 h.prev_lpc_q12 h.rand_seed h.rand_scale_q14 h.prev_ltp_scale_q14 h.prev_gain_q16 h.fs_khz h.nb_subfr h.subfr_length)

-- one loss
abbrev one_loss : SilkDecoderState → Outcome
one_loss s = plc_conceal (shape_of s) s (description (pos 0))

-- the pitch (Q8) that concealment holds after one loss, and the description's last lag
abbrev pitch_after : ℤ → ℤ → ℤ
pitch_after nb pitch = (one_loss (pitched nb pitch)).state.s_plc.pitch_l_q8

abbrev lag_after : ℤ → ℤ → ℤ
lag_after nb pitch = get_or (one_loss (pitched nb pitch)).control.pitch_l 3 (pos 0)

-- line i of the noise after a first loss at a rate
abbrev line_after : ℤ → ℕ → ℤ
line_after khz i =
    let o = one_loss (start khz (pos 4)) in
    let p = shape_of o.state in
    get_or (comfort_noise p o.state o.control.gains_q16 (frame_length p) o.samples).state.s_cng.cng_smth_nlsf_q15 i (pos 0)

unfoldable pub bench : List Row
bench =
    -- generator from 0; 1
    row (rand (pos 0)) (pos 907633515)
    ∷ row (rand (pos 1)) (pos 1103947680)
    -- seed 0, type 2, offset 0, pulse 1; 0; −1
    ∷ row (excitation_after (pos 0) (pos 1)) (pos 15616)
    ∷ row (excitation_after (pos 0) (pos 0)) (pos 512)
    ∷ row (excitation_after (pos 0) (negsuc 0)) (negsuc 14591)
    -- seed 7, same, pulse 0
    ∷ row (excitation_after (pos 7) (pos 0)) (negsuc 511)
    -- silk_sqrt_approx of −1, 0, 1, 16,777,216
    ∷ row (sqrt_approx (negsuc 0)) (pos 0)
    ∷ row (sqrt_approx (pos 0)) (pos 0)
    ∷ row (sqrt_approx (pos 1)) (pos 1)
    ∷ row (sqrt_approx (pos 16777216)) (pos 4096)
    -- silk_inverse32_varq of 0; 65,536, at 46
    ∷ row (inverse32_varq (pos 0) (pos 46)) (pos 2147483647)
    ∷ row (inverse32_varq (pos 65536) (pos 46)) (pos 1073741823)
    -- order 1, coefficient 0; 4,094
    ∷ row (reason_of (pos 0)) (pos 0)
    ∷ row (value_of (pos 0)) (pos 1073741824)
    ∷ row (reason_of (pos 4094)) (pos 0)
    ∷ row (value_of (pos 4094)) (pos 1048320)
    -- order 1, 4,095; −4,095; 4,096 (document 02, Note 7: coefficient 0; coefficient 0; sum)
    ∷ row (reason_of (pos 4095)) (pos 2)
    ∷ row (value_of (pos 4095)) (pos 0)
    ∷ row (reason_of (negsuc 4094)) (pos 2)
    ∷ row (value_of (negsuc 4094)) (pos 0)
    ∷ row (reason_of (pos 4096)) (pos 1)
    ∷ row (value_of (pos 4096)) (pos 0)
    -- tap sum 256; 358; 359
    ∷ row (tap_after (pos 256)) (negsuc 4914)
    ∷ row (tap_after (pos 358)) (negsuc 11443)
    ∷ row (tap_after (pos 359)) (pos 11468)
    -- tap sum 11,469; 15,565; 15,566
    ∷ row (tap_after (pos 11469)) (pos 11469)
    ∷ row (tap_after (pos 15565)) (pos 15565)
    ∷ row (tap_after (pos 15566)) (pos 15564)
    -- 16 kHz, pitch 40,960, one loss, n = 4
    ∷ row (pitch_after (pos 4) (pos 40960)) (pos 42620)
    ∷ row (lag_after (pos 4) (pos 40960)) (pos 166)
    -- 16 kHz, pitch 73,728, one loss
    ∷ row (pitch_after (pos 2) (pos 73728)) (pos 73728)
    ∷ row (lag_after (pos 2) (pos 73728)) (pos 288)
    ∷ row (pitch_after (pos 4) (pos 73728)) (pos 73728)
    ∷ row (lag_after (pos 4) (pos 73728)) (pos 288)
    -- first and last noise line, order 10; 16
    ∷ row (line_after (pos 8) 0) (pos 2978)
    ∷ row (line_after (pos 8) 9) (pos 29780)
    ∷ row (line_after (pos 16) 0) (pos 1927)
    ∷ row (line_after (pos 16) 15) (pos 30832)
    -- mask at 80, 160, 240, 320
    ∷ row (pos (exc_mask 80)) (pos 63)
    ∷ row (pos (exc_mask 160)) (pos 127)
    ∷ row (pos (exc_mask 240)) (pos 127)
    ∷ row (pos (exc_mask 320)) (pos 255)
    ∷ []

-- what is computed in each row is its outcome
abbrev pub EachRow : Type 0
EachRow = (k : ℕ) (d : Row) → k < length bench → (get_or bench k d).computed ≡ (get_or bench k d).outcome
