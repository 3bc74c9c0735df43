-- The fields of a frame's 817 bytes, by their places; a lost frame's are zeros.
use Rattle.std.specs.Prelude.{ℕ, Bool, cond, List, [], ◌∷◌, eqb, ℤ, get_or}
use Rattle.decoder.specs.Signals.{signal_of}
use Rattle.decoder.specs.declared.Params.{Params}
use Rattle.decoder.specs.declared.Frame.{Frame}
use Rattle.decoder.specs.declared.Frame.TheVariants.{Received, Lost}
use Rattle.decoder.specs.declared.SilkDecoderControl.{SilkDecoderControl}
use Rattle.std.specs.Int.{w8, w16, w32}
use Rattle.le.specs.Bytes.{signed_at, words_at}

unfoldable pub params_in : List ℕ → Params
params_in b =
    record { signal = signal_of (signed_at w8 b 1); quant_offset_type = signed_at w8 b 2; nlsf_interp_coef_q2 = signed_at w8 b 3; seed = signed_at w8 b 4 }

-- byte 0 is 1 where the frame was received
abbrev pub is_received : List ℕ → Bool
is_received b = eqb (get_or b 0 0) 1

unfoldable pub frame_in : List ℕ → Frame
frame_in b = cond (is_received b) (Received (params_in b)) Lost

unfoldable pub control_in : List ℕ → SilkDecoderControl
control_in b =
    record {
      pitch_l = words_at w32 b 5 4;
      gains_q16 = words_at w32 b 21 4;
      ltp_coef_q14 = words_at w16 b 101 20;
      ltp_scale_q14 = signed_at w32 b 141;
    }

unfoldable pub rows_in : List ℕ → List (List ℤ)
rows_in b = words_at w16 b 37 16 ∷ words_at w16 b 69 16 ∷ []

unfoldable pub lines_in : List ℕ → List ℤ
lines_in b = words_at w16 b 145 16

-- the largest frame's pulses
unfoldable pub pulses_in : List ℕ → List ℤ
pulses_in b = words_at w16 b 177 320
