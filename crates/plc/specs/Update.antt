-- What concealment keeps of a received frame (plc.rs, silk_plc_update).
use Rattle.std.specs.Prelude.{ℕ, zero, suc, ◌-◌, ◌*◌, ◌^◌, Bool, cond, ◌&&◌, List, [], ◌∷◌, ◌++◌, ℤ, pos, ◌*ℤ◌, get_or, take, drop}
use Rattle.std.specs.Int.Signed.{lt_z, quot_z}
use Rattle.word.specs.Int.{floor_div, wrap16, wrap32, max_ℤ}
use Rattle.macros.specs.Fixed.{smulbb}
use Rattle.shape.specs.Shape.{Shape, subfr_length, lpc_order}
use Rattle.decoder.specs.Signals.{signal_number, is_voiced}
use Rattle.decoder.specs.With.{with_type, with_plc}
use Rattle.decoder.specs.declared.SilkPLCState.{SilkPLCState}
use Rattle.decoder.specs.declared.SilkDecoderState.{SilkDecoderState}
use Rattle.decoder.specs.declared.SilkDecoderControl.{SilkDecoderControl}
use Rattle.decoder.specs.declared.Signal.{Signal}
use Rattle.judge.specs.Taps.{tap_sum}
use Rattle.plc.specs.Hold.{hold, plc_ready}
use Rattle.plc.specs.declared.update.Pulse.{Pulse}
use Rattle.plc.specs.declared.update.Strongest.{Strongest}

-- a subframe's sum of taps and lag: its pitch (Q8), if it is reached and its sum is larger
unfoldable pub stronger : Strongest → Bool → ℤ → ℤ → Strongest
stronger b reached sum lag =
    cond (reached && lt_z b.gain sum) (record { gain = sum; pitch = wrap32 (lag *ℤ pos (2 ^ 8)) }) b

-- of the last j subframes, newest first, as far as the last pitch period reaches
unfoldable pub strongest : Shape → List ℤ → List ℤ → ℤ → ℕ → Strongest
strongest p lags taps pitch zero = record { gain = pos 0; pitch = pitch }
strongest p lags taps pitch (suc j) =
    let k = p.subframes - 1 - j in
    stronger (strongest p lags taps pitch j) (lt_z (pos (j * subfr_length p)) (get_or lags (p.subframes - 1) (pos 0)))
    (tap_sum taps k)
    (get_or lags k (pos 0))

-- the sum times limit / sum (a quotient with q places), through 16 bits
unfoldable pub scaled_by : ℕ → ℤ → ℤ → ℤ
scaled_by q limit sum =
    wrap16 (floor_div (smulbb sum (quot_z (limit *ℤ pos (2 ^ q)) (max_ℤ sum (pos 1)))) (2 ^ q))

-- the middle tap for a sum of taps: brought to 11,469 from below and to 15,565 from above
unfoldable pub scaled_tap : ℤ → ℤ
scaled_tap sum =
    cond (lt_z sum (pos 11469)) (scaled_by 10 (pos 11469) sum)
    (cond (lt_z (pos 15565) sum) (scaled_by 14 (pos 15565) sum) sum)

-- the middle tap and the pitch (Q8) to hold: of a frame that is not voiced 0 and 18 ms
unfoldable pub pulse_of : Shape → Bool → SilkDecoderControl → ℤ → Pulse
pulse_of p voiced c pitch =
    let b = strongest p c.pitch_l c.ltp_coef_q14 pitch p.subframes in
    cond voiced (record { tap = scaled_tap b.gain; pitch = b.pitch }) (record { tap = pos 0; pitch = pos (4608 * p.rate) })

-- five taps, the outer four 0
abbrev pub middle : ℤ → List ℤ
middle b = pos 0 ∷ pos 0 ∷ b ∷ pos 0 ∷ pos 0 ∷ []

-- what is held of a voiced frame or another, its description and its second row of coefficients
unfoldable pub plc_updated : Shape → Bool → SilkDecoderControl → List ℤ → SilkPLCState → SilkPLCState
plc_updated p voiced c row h =
    let b = pulse_of p voiced c h.pitch_l_q8 in
    let d = lpc_order p in
    hold h b.pitch (middle b.tap)
    (take d row ++ drop d h.prev_lpc_q12)
    h.rand_seed
    h.rand_scale_q14
    (wrap16 c.ltp_scale_q14)
    (get_or c.gains_q16 (p.subframes - 2) (pos 0) ∷ get_or c.gains_q16 (p.subframes - 1) (pos 0) ∷ [])
    h.fs_khz
    (pos p.subframes)
    (pos (subfr_length p))

-- what is held after a received frame
abbrev pub updated_by : Shape → Signal → SilkDecoderControl → List (List ℤ) → SilkPLCState → SilkPLCState
updated_by p signal c rows held = plc_updated p (is_voiced signal) c (get_or rows 1 []) (plc_ready p held)

-- silk_plc for a received frame
unfoldable pub plc_update : Shape → SilkDecoderState → Signal → SilkDecoderControl → List (List ℤ) → SilkDecoderState
plc_update p s signal c rows = with_plc (with_type s (signal_number signal)) (updated_by p signal c rows s.s_plc)
