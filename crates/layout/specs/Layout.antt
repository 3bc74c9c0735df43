-- How a state lies in the slices that a program lends: each number in its own type, arrays whole.
use Rattle.std.specs.Prelude.{ℕ, ◌≡◌, Bool, ◌||◌, List, [], ◌∷◌, ◌++◌, ltb, ℤ, pos, get_or, take, drop}
use Rattle.sigproc.specs.Place.{put_at}
use Rattle.decoder.specs.Typed.{Typed}
use Rattle.decoder.specs.declared.SilkCNGState.{SilkCNGState}
use Rattle.decoder.specs.declared.SilkPLCState.{SilkPLCState}
use Rattle.decoder.specs.declared.Settings.{Settings}
use Rattle.decoder.specs.declared.SilkDecoderState.{SilkDecoderState}

-- n elements from place `at` on
abbrev pub part : {A : Type 0} → List A → ℕ → ℕ → List A
part xs at n = take n (drop at xs)

abbrev pub one : List ℤ → ℕ → ℤ
one xs at = get_or xs at (pos 0)

-- the numbers of a state, in 32 and in 16 bits
abbrev pub WORDS : ℕ
WORDS = 698

abbrev pub HALVES : ℕ
HALVES = 535

-- slices of these lengths are too short for a state
unfoldable pub short_state : ℕ → ℕ → Bool
short_state words halves = ltb words WORDS || ltb halves HALVES

unfoldable pub cng_in : List ℤ → List ℤ → SilkCNGState
cng_in words halves =
    record {
      cng_exc_buf_q14 = part words 357 320;
      cng_smth_nlsf_q15 = part halves 519 16;
      cng_synth_state = part words 677 16;
      cng_smth_gain_q16 = one words 693;
      rand_seed = one words 694;
      fs_khz = one words 695;
    }

unfoldable pub plc_in : List ℤ → List ℤ → SilkPLCState
plc_in words halves =
    record {
      pitch_l_q8 = one words 347;
      ltp_coef_q14 = part halves 496 5;
      prev_lpc_q12 = part halves 501 16;
      last_frame_lost = one words 348;
      rand_seed = one words 349;
      rand_scale_q14 = one halves 517;
      conc_energy = one words 350;
      conc_energy_shift = one words 351;
      prev_ltp_scale_q14 = one halves 518;
      prev_gain_q16 = part words 352 2;
      fs_khz = one words 354;
      nb_subfr = one words 355;
      subfr_length = one words 356;
    }

unfoldable pub settings_in : List ℤ → Settings
settings_in words = record { squelch = one words 696; edition = one words 697 }

-- the state that words and halves hold
unfoldable pub state_in : List ℤ → List ℤ → SilkDecoderState
state_in words halves =
    record {
      prev_gain_q16 = one words 0;
      exc_q14 = part words 1 320;
      s_lpc_q14_buf = part words 321 16;
      out_buf = part halves 0 480;
      lag_prev = one words 337;
      fs_khz = one words 338;
      nb_subfr = one words 339;
      frame_length = one words 340;
      subfr_length = one words 341;
      ltp_mem_length = one words 342;
      lpc_order = one words 343;
      prev_nlsf_q15 = part halves 480 16;
      first_frame_after_reset = one words 344;
      s_cng = cng_in words halves;
      loss_cnt = one words 345;
      prev_signal_type = one words 346;
      s_plc = plc_in words halves;
      settings = settings_in words;
    }

-- the numbers between the decoder's arrays and the noise's: the decoder's, then concealment's
unfoldable pub numbers : SilkDecoderState → List ℤ
numbers s =
    let h = s.s_plc in
    s.lag_prev ∷ s.fs_khz ∷ s.nb_subfr ∷ s.frame_length ∷ s.subfr_length ∷ s.ltp_mem_length ∷ s.lpc_order
    ∷ s.first_frame_after_reset
    ∷ s.loss_cnt
    ∷ s.prev_signal_type
    ∷ h.pitch_l_q8
    ∷ h.last_frame_lost
    ∷ h.rand_seed
    ∷ h.conc_energy
    ∷ h.conc_energy_shift
    ∷ get_or h.prev_gain_q16 0 (pos 0)
    ∷ get_or h.prev_gain_q16 1 (pos 0)
    ∷ h.fs_khz
    ∷ h.nb_subfr
    ∷ h.subfr_length
    ∷ []

-- those behind the noise's arrays: the noise's, then the settings
unfoldable pub last_numbers : SilkDecoderState → List ℤ
last_numbers s =
    let h = s.s_cng in
    h.cng_smth_gain_q16 ∷ h.rand_seed ∷ h.fs_khz ∷ s.settings.squelch ∷ s.settings.edition ∷ []

-- a state's words
unfoldable pub state_words : SilkDecoderState → List ℤ
state_words s =
    let h = s.s_cng in
    (s.prev_gain_q16 ∷ []) ++ s.exc_q14 ++ s.s_lpc_q14_buf ++ numbers s ++ h.cng_exc_buf_q14 ++ h.cng_synth_state
    ++ last_numbers s

-- a state's halves
unfoldable pub state_halves : SilkDecoderState → List ℤ
state_halves s =
    let h = s.s_plc in
    s.out_buf ++ s.prev_nlsf_q15 ++ h.ltp_coef_q14 ++ h.prev_lpc_q12 ++ (h.rand_scale_q14 ∷ h.prev_ltp_scale_q14 ∷ [])
    ++ s.s_cng.cng_smth_nlsf_q15

-- words and halves with a state in its places
abbrev pub with_words : List ℤ → SilkDecoderState → List ℤ
with_words words s = put_at words 0 (state_words s)

abbrev pub with_halves : List ℤ → SilkDecoderState → List ℤ
with_halves halves s = put_at halves 0 (state_halves s)

-- a state that is put is the state that is read
abbrev pub StateStored : Type 0
StateStored =
    (words halves : List ℤ) (s : SilkDecoderState) → Typed s → state_in (with_words words s) (with_halves halves s) ≡ s
