-- Document 01, "State ranges (3)", at a rate r.
use Rattle.std.specs.Prelude.{ℕ, zero, suc, ◌*◌, Bool, true, cond, ◌&&◌, ◌||◌, List, ℤ, pos, negsuc, get_or}
use Rattle.std.specs.Int.Signed.{le_z, lt_z}
use Rattle.word.specs.Int.{eq_ℤ}
use Rattle.shape.specs.Shape.{order_of}
use Rattle.decoder.specs.declared.SilkCNGState.{SilkCNGState}
use Rattle.decoder.specs.declared.SilkPLCState.{SilkPLCState}
use Rattle.decoder.specs.declared.SilkDecoderState.{SilkDecoderState}

-- z lies in low to high
unfoldable pub within : ℤ → ℤ → ℤ → Bool
within low high z = le_z low z && le_z z high

-- the first n elements of a list lie in low to high
unfoldable pub all_within : ℤ → ℤ → List ℤ → ℕ → Bool
all_within low high xs zero = true
all_within low high xs (suc n) = all_within low high xs n && within low high (get_or xs n (pos 0))

-- b, where a condition holds
unfoldable pub only_if : Bool → Bool → Bool
only_if c b = cond c b true

-- a lag at a rate r: 2r to 18r
abbrev pub is_lag : ℕ → ℤ → Bool
is_lag r z = within (pos (2 * r)) (pos (18 * r)) z

-- the first order lines at a rate r are not negative
abbrev pub lines_fit : ℕ → List ℤ → Bool
lines_fit r lines = all_within (pos 0) (pos 32767) lines (order_of r)

-- the fields of the decoder's own
unfoldable pub decoder_fits : ℕ → SilkDecoderState → Bool
decoder_fits r s =
    le_z (pos 0) s.loss_cnt && only_if (lt_z (pos 0) s.loss_cnt) (is_lag r s.lag_prev)
    && within (pos 0) (pos 2) s.prev_signal_type
    && within (pos 65536) (pos 1686110208) s.prev_gain_q16
    && within (pos 0) (pos 1) s.first_frame_after_reset
    && lines_fit r s.prev_nlsf_q15

-- outer four taps 0, middle tap -11,456 to 15,565
unfoldable pub taps_held : List ℤ → Bool
taps_held taps =
    eq_ℤ (get_or taps 0 (pos 0)) (pos 0) && eq_ℤ (get_or taps 1 (pos 0)) (pos 0)
    && within (negsuc 11455) (pos 15565) (get_or taps 2 (pos 0))
    && eq_ℤ (get_or taps 3 (pos 0)) (pos 0) && eq_ℤ (get_or taps 4 (pos 0)) (pos 0)

-- 2 subframes of 20 samples, or 2 or 4 of 5r
unfoldable pub subframes_held : ℕ → ℤ → ℤ → Bool
subframes_held r n l =
    (eq_ℤ n (pos 2) && eq_ℤ l (pos 20)) || ((eq_ℤ n (pos 2) || eq_ℤ n (pos 4)) && eq_ℤ l (pos (5 * r)))

-- what concealment holds for its own rate
unfoldable pub plc_held : ℕ → SilkPLCState → Bool
plc_held r h =
    within (pos (512 * r)) (pos (4608 * r)) h.pitch_l_q8
    && all_within (pos 65536) (pos 1686110208) h.prev_gain_q16 2
    && subframes_held r h.nb_subfr h.subfr_length

unfoldable pub plc_fits : ℕ → SilkPLCState → Bool
plc_fits r h =
    within (pos 0) (pos 1) h.last_frame_lost && taps_held h.ltp_coef_q14
    && within (pos 0) (pos 27840) h.rand_scale_q14
    && within (pos 0) (pos 16384) h.prev_ltp_scale_q14
    && le_z (pos 0) h.conc_energy
    && within (pos 0) (pos 31) h.conc_energy_shift
    && only_if (eq_ℤ h.fs_khz (pos r)) (plc_held r h)

unfoldable pub cng_fits : ℕ → SilkCNGState → Bool
cng_fits r h =
    only_if (eq_ℤ h.fs_khz (pos r)) (lines_fit r h.cng_smth_nlsf_q15 && within (pos 0) (pos 1686110208) h.cng_smth_gain_q16)
