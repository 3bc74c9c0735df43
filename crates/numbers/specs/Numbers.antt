-- A frame as the numbers in which every exported call takes one; crates/layout/specs/Frame.antt has how they are read.
use Rattle.std.specs.Prelude.{Bool, cond, List, [], ◌∷◌, ◌++◌, ℤ, pos, get_or}
use Rattle.decoder.specs.Signals.{signal_number}
use Rattle.decoder.specs.declared.Params.{Params}
use Rattle.decoder.specs.declared.SilkDecoderControl.{SilkDecoderControl}

-- received, rate, subframes, signal, offset, interpolation, seed
unfoldable pub small_numbers : Bool → ℤ → ℤ → Params → List ℤ
small_numbers received khz nb q =
    cond received (pos 1) (pos 0) ∷ khz ∷ nb ∷ signal_number q.signal ∷ q.quant_offset_type ∷ q.nlsf_interp_coef_q2 ∷ q.seed ∷ []

-- those, then lags, gains, LTP scale
unfoldable pub frame_numbers : Bool → ℤ → ℤ → Params → SilkDecoderControl → List ℤ
frame_numbers received khz nb q c =
    small_numbers received khz nb q ++ c.pitch_l ++ c.gains_q16 ++ (c.ltp_scale_q14 ∷ [])

-- taps, both rows, lines
unfoldable pub coef_numbers : SilkDecoderControl → List (List ℤ) → List ℤ → List ℤ
coef_numbers c rows lines = c.ltp_coef_q14 ++ get_or rows 0 [] ++ get_or rows 1 [] ++ lines
