-- A frame as it is recorded, and its bytes.
use Rattle.std.specs.Prelude.{ℕ, cond, List, [], ◌∷◌, ◌++◌, ℤ, get_or, replicate}
use Rattle.std.specs.Int.{w16, w32}
use Rattle.le.specs.Bytes.{bytes_of, packed, joined}
use Rattle.decoder.specs.Signals.{signal_number}
use Rattle.decoder.specs.declared.Params.{Params}
use Rattle.decoder.specs.declared.SilkDecoderControl.{SilkDecoderControl}
use Rattle.record.specs.Record.{is_received, params_in, control_in, rows_in, lines_in, pulses_in}

-- a lost frame brings nothing, a received one its small numbers, description, coefficient rows, lines and pulses
pub data Recorded : Type 0 where
  lost : Recorded
  received : Params → SilkDecoderControl → List (List ℤ) → List ℤ → List ℤ → Recorded

-- the frame that bytes hold
unfoldable pub recorded_in : List ℕ → Recorded
recorded_in b = cond (is_received b) (received (params_in b) (control_in b) (rows_in b) (lines_in b) (pulses_in b)) lost

-- the kind and the small numbers of a received frame, a byte each
abbrev pub small_bytes : Params → List ℕ
small_bytes q =
    1 ∷ bytes_of 1 (signal_number q.signal) ++ bytes_of 1 q.quant_offset_type ++ bytes_of 1 q.nlsf_interp_coef_q2 ++ bytes_of 1 q.seed

-- the parts of a received frame's bytes, in their order
abbrev pub parts : Params → SilkDecoderControl → List (List ℤ) → List ℤ → List ℤ → List (List ℕ)
parts q c rows lines pulses =
    small_bytes q
    ∷ packed w32 c.pitch_l 4
    ∷ packed w32 c.gains_q16 4
    ∷ packed w16 (get_or rows 0 []) 16
    ∷ packed w16 (get_or rows 1 []) 16
    ∷ packed w16 c.ltp_coef_q14 20
    ∷ bytes_of 4 c.ltp_scale_q14
    ∷ packed w16 lines 16
    ∷ packed w16 pulses 320
    ∷ []

-- a frame's 817 bytes
unfoldable pub record_bytes : Recorded → List ℕ
record_bytes lost = replicate 817 0
record_bytes (received q c rows lines pulses) = joined (parts q c rows lines pulses)
