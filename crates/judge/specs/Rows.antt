-- Document 01, "Why a frame is turned down": rows 4 to 12, and the rows that each call meets.
use Rattle.std.specs.Prelude.{ℕ, ◌*◌, Bool, not, ◌&&◌, ◌||◌, List, [], ◌∷◌, ◌++◌, eqb, ltb, ℤ, pos}
use Rattle.word.specs.Int.{eq_ℤ}
use Rattle.refusal.specs.First.{Row, ◌gives◌}
use Rattle.refusal.specs.declared.Refusal.TheVariants.{RunFull, Signal, Gain, Lag, Taps, Line, Pulses, Speaker, Length}
use Rattle.shape.specs.Shape.{Shape, shape, frame_length}
use Rattle.decoder.specs.Signals.{is_type, is_voiced}
use Rattle.decoder.specs.State.{shape_of}
use Rattle.decoder.specs.Ranges.{within, all_within, only_if, lines_fit}
use Rattle.decoder.specs.Rows.{state_rows, coming_rows}
use Rattle.decoder.specs.declared.SilkDecoderState.{SilkDecoderState}
use Rattle.decoder.specs.declared.SilkDecoderControl.{SilkDecoderControl}
use Rattle.decoder.specs.declared.Params.{Params}
use Rattle.decoder.specs.declared.Frame.{Frame}
use Rattle.decoder.specs.declared.Frame.TheVariants.{Received, Lost}
use Rattle.judge.specs.Taps.{taps_fit}

abbrev pub run_full_row : SilkDecoderState → Bool
run_full_row s = eq_ℤ s.loss_cnt (pos 2147483647)

-- type not 0, 1, 2; offset type not 0, 1; interpolation not 0 to 4
unfoldable pub signal_row : Params → Bool
signal_row q =
    not (is_type q.signal && within (pos 0) (pos 1) q.quant_offset_type
    && within (pos 0) (pos 4) q.nlsf_interp_coef_q2)

-- one of the n gains is not in 81,920 to 1,686,110,208
unfoldable pub gain_row : ℕ → SilkDecoderControl → Bool
gain_row n c = not (all_within (pos 81920) (pos 1686110208) c.gains_q16 n)

-- type 2 and one of the n lags is not in 2r to 18r
unfoldable pub lag_row : Shape → Params → SilkDecoderControl → Bool
lag_row p q c =
    not (only_if (is_voiced q.signal) (all_within (pos (2 * p.rate)) (pos (18 * p.rate)) c.pitch_l p.subframes))

-- the LTP scale is not in 0 to 16,384; or type 2 and the taps of one of n subframes add up to more or less than 16 bits hold
unfoldable pub taps_row : ℕ → Params → SilkDecoderControl → Bool
taps_row n q c =
    not (within (pos 0) (pos 16384) c.ltp_scale_q14
    && only_if (is_voiced q.signal) (taps_fit c.ltp_coef_q14 n))

abbrev pub line_row : Shape → List ℤ → Bool
line_row p lines = not (lines_fit p.rate lines)

-- fewer than 5rn pulses, or output samples, lent
abbrev pub room_row : Shape → ℕ → Bool
room_row p lent = ltb lent (frame_length p)

-- a length of 0, above 320 or above the buffer
unfoldable pub length_row : ℕ → ℕ → Bool
length_row lent n = eqb n 0 || ltb 320 n || ltb lent n

-- rows 5 to 8 of a received frame
abbrev pub param_rows : Shape → Params → SilkDecoderControl → List Row
param_rows p q c =
    (signal_row q gives Signal)
    ∷ (gain_row p.subframes c gives Gain)
    ∷ (lag_row p q c gives Lag)
    ∷ (taps_row p.subframes q c gives Taps)
    ∷ []

-- rows 5 to 9
abbrev pub description_rows : Shape → Params → SilkDecoderControl → List ℤ → List Row
description_rows p q c lines = param_rows p q c ++ (line_row p lines gives Line) ∷ []

-- rows 10 and 11
abbrev pub room_rows : Shape → ℕ → ℕ → List Row
room_rows p pulses output = (room_row p pulses gives Pulses) ∷ (room_row p output gives Speaker) ∷ []

-- rows 4 and 11 of a lost frame
abbrev pub loss_rows : Shape → SilkDecoderState → ℕ → List Row
loss_rows p s output = (run_full_row s gives RunFull) ∷ (room_row p output gives Speaker) ∷ []

-- a whole frame brings a rate and a count (document 02, Note 1): the rows from 4 on are met at that shape
module _ (khz nb : ℤ) (s : SilkDecoderState) where
  -- the rows that a received one meets: 1 to 11 but 4
  abbrev pub received_rows : Params → SilkDecoderControl → List ℤ → ℕ → ℕ → List Row
  received_rows q c lines pulses output =
      let p = shape khz nb in
      coming_rows khz nb s ++ description_rows p q c lines ++ room_rows p pulses output

  -- those of a lost one: 1 to 4 and 11
  abbrev pub lost_rows : ℕ → List Row
  lost_rows output = coming_rows khz nb s ++ loss_rows (shape khz nb) s output

  abbrev pub frame_rows : Frame → SilkDecoderControl → List ℤ → ℕ → ℕ → List Row
  frame_rows (Received q) c lines pulses output = received_rows q c lines pulses output
  frame_rows Lost c lines pulses output = lost_rows output

-- those of core alone: 1 to 3, 5 to 8, 10, 11
abbrev pub core_rows : SilkDecoderState → Params → SilkDecoderControl → ℕ → ℕ → List Row
core_rows s q c pulses output =
    let p = shape_of s in
    state_rows s ++ param_rows p q c ++ room_rows p pulses output

-- those of concealment alone for a received frame: 1 to 3 and 5 to 8
abbrev pub plc_received_rows : SilkDecoderState → Params → SilkDecoderControl → List Row
plc_received_rows s q c = state_rows s ++ param_rows (shape_of s) q c

-- for a lost one: 1 to 4 and 11
abbrev pub plc_lost_rows : SilkDecoderState → ℕ → List Row
plc_lost_rows s output = state_rows s ++ loss_rows (shape_of s) s output

-- those of gluing alone: 1 to 3 and 12
abbrev pub glue_rows : SilkDecoderState → ℕ → ℕ → List Row
glue_rows s lent n = state_rows s ++ (length_row lent n gives Length) ∷ []

-- those of noise alone: 1 to 3, 6 only if loss_cnt is 0, and 12
abbrev pub cng_rows : SilkDecoderState → SilkDecoderControl → ℕ → ℕ → List Row
cng_rows s c lent n =
    state_rows s
    ++ ((eq_ℤ s.loss_cnt (pos 0) && gain_row (shape_of s).subframes c) gives Gain)
    ∷ (length_row lent n gives Length)
    ∷ []
