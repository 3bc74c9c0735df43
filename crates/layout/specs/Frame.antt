-- A frame in numbers: `frame` has its kind, its shape, its small numbers, lags, gains and LTP scale, `coefs` its taps, coefficient rows and lines.
use Rattle.std.specs.Prelude.{ℕ, ◌≤◌, ◌≡◌, Bool, cond, ◌||◌, List, [], ◌∷◌, ltb, ℤ, pos, negsuc, length, replicate}
use Rattle.std.specs.Int.{w8}
use Rattle.word.specs.Int.{eq_ℤ, wrap}
use Rattle.sigproc.specs.Place.{put_at}
use Rattle.decoder.specs.Ranges.{within}
use Rattle.decoder.specs.Signals.{signal_of}
use Rattle.decoder.specs.Typed.{TypedControl}
use Rattle.decoder.specs.declared.Params.{Params}
use Rattle.decoder.specs.declared.Frame.{Frame}
use Rattle.decoder.specs.declared.Frame.TheVariants.{Received, Lost}
use Rattle.decoder.specs.declared.SilkDecoderControl.{SilkDecoderControl}
use Rattle.layout.specs.Layout.{part, one, short_state}

-- 0 received, 1 rate, 2 subframes, 3 signal, 4 offset, 5 interpolation, 6 seed, 7 to 10 lags, 11 to 14 gains, 15 LTP scale
abbrev pub FRAME : ℕ
FRAME = 16

-- 0 to 19 taps, 20 to 51 two rows of coefficients, 52 to 67 lines
abbrev pub COEFS : ℕ
COEFS = 68

-- slices of these lengths are too short for a state and a frame without coefficients, and with them
unfoldable pub short_frame : ℕ → ℕ → ℕ → Bool
short_frame words halves frame = short_state words halves || ltb frame FRAME

unfoldable pub short_call : ℕ → ℕ → ℕ → ℕ → Bool
short_call words halves frame coefs = short_frame words halves frame || ltb coefs COEFS

-- a number of 8 bits; one outside them counts as −1, which row 5 refuses
unfoldable pub small : ℤ → ℤ
small z = cond (within (negsuc 127) (pos 127) z) z (negsuc 0)

-- a received frame's small numbers; of the seed the low 8 bits count
unfoldable pub params_in : List ℤ → Params
params_in frame =
    record {
      signal = signal_of (small (one frame 3));
      quant_offset_type = small (one frame 4);
      nlsf_interp_coef_q2 = small (one frame 5);
      seed = wrap w8 (one frame 6);
    }

-- any number but 0 at the first place counts as received
unfoldable pub frame_in : List ℤ → Frame
frame_in frame = cond (eq_ℤ (one frame 0) (pos 0)) Lost (Received (params_in frame))

-- the rate and the count of subframes that come with it
unfoldable pub rate_in : List ℤ → ℤ
rate_in frame = one frame 1

unfoldable pub subframes_in : List ℤ → ℤ
subframes_in frame = one frame 2

-- the description; its taps are the first 20 coefficients
unfoldable pub control_in : List ℤ → List ℤ → SilkDecoderControl
control_in frame coefs =
    record {
      pitch_l = part frame 7 4;
      gains_q16 = part frame 11 4;
      ltp_coef_q14 = part coefs 0 20;
      ltp_scale_q14 = one frame 15;
    }

-- a description without taps, of which concealment and noise read none
unfoldable pub tapless : List ℤ → SilkDecoderControl
tapless frame = control_in frame (replicate 20 (pos 0))

unfoldable pub rows_in : List ℤ → List (List ℤ)
rows_in coefs = part coefs 20 16 ∷ part coefs 36 16 ∷ []

abbrev pub lines_in : List ℤ → List ℤ
lines_in coefs = part coefs 52 16

-- of a new description, `frame` takes the lags and `coefs` the taps; all else stays as lent
unfoldable pub with_lags : List ℤ → SilkDecoderControl → List ℤ
with_lags frame c = put_at frame 7 c.pitch_l

unfoldable pub with_taps : List ℤ → SilkDecoderControl → List ℤ
with_taps coefs c = put_at coefs 0 c.ltp_coef_q14

-- lags and taps that are put are those that are read, and all else is read as before
abbrev pub FrameStored : Type 0
FrameStored =
    (frame coefs : List ℤ) (c : SilkDecoderControl) → FRAME ≤ length frame → COEFS ≤ length coefs → TypedControl c
    → (control_in (with_lags frame c) (with_taps coefs c) ≡ record { pitch_l = c.pitch_l; gains_q16 = part frame 11 4; ltp_coef_q14 = c.ltp_coef_q14; ltp_scale_q14 = one frame 15 })
    × (frame_in (with_lags frame c) ≡ frame_in frame)
    × (rows_in (with_taps coefs c) ≡ rows_in coefs)
    × (lines_in (with_taps coefs c) ≡ lines_in coefs)
