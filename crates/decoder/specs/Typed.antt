-- Every number is in the range of its type, and every array has its length.
use Rattle.std.specs.Prelude.{ℕ, ◌≡◌, List, [], ℤ, pos, get_or, length}
use Rattle.std.specs.Int.{Width, w16, w32}
use Rattle.std.proofs.Common.{SFits}
use Rattle.decoder.specs.declared.SilkCNGState.{SilkCNGState}
use Rattle.decoder.specs.declared.SilkPLCState.{SilkPLCState}
use Rattle.decoder.specs.declared.Settings.{Settings}
use Rattle.decoder.specs.declared.SilkDecoderState.{SilkDecoderState}
use Rattle.decoder.specs.declared.SilkDecoderControl.{SilkDecoderControl}

-- n numbers, each of a width
pub record Words (w : Width) (n : ℕ) (xs : List ℤ) : Type 0 where
  pub count : length xs ≡ n
  pub fits : (i : ℕ) → SFits w (get_or xs i (pos 0))

pub record TypedCng (h : SilkCNGState) : Type 0 where
  pub cng_exc_buf_q14 : Words w32 320 h.cng_exc_buf_q14
  pub cng_smth_nlsf_q15 : Words w16 16 h.cng_smth_nlsf_q15
  pub cng_synth_state : Words w32 16 h.cng_synth_state
  pub cng_smth_gain_q16 : SFits w32 h.cng_smth_gain_q16
  pub rand_seed : SFits w32 h.rand_seed
  pub fs_khz : SFits w32 h.fs_khz

pub record TypedPlc (h : SilkPLCState) : Type 0 where
  pub pitch_l_q8 : SFits w32 h.pitch_l_q8
  pub ltp_coef_q14 : Words w16 5 h.ltp_coef_q14
  pub prev_lpc_q12 : Words w16 16 h.prev_lpc_q12
  pub last_frame_lost : SFits w32 h.last_frame_lost
  pub rand_seed : SFits w32 h.rand_seed
  pub rand_scale_q14 : SFits w16 h.rand_scale_q14
  pub conc_energy : SFits w32 h.conc_energy
  pub conc_energy_shift : SFits w32 h.conc_energy_shift
  pub prev_ltp_scale_q14 : SFits w16 h.prev_ltp_scale_q14
  pub prev_gain_q16 : Words w32 2 h.prev_gain_q16
  pub fs_khz : SFits w32 h.fs_khz
  pub nb_subfr : SFits w32 h.nb_subfr
  pub subfr_length : SFits w32 h.subfr_length

pub record TypedSettings (v : Settings) : Type 0 where
  pub squelch : SFits w32 v.squelch
  pub edition : SFits w32 v.edition

pub record Typed (s : SilkDecoderState) : Type 0 where
  pub prev_gain_q16 : SFits w32 s.prev_gain_q16
  pub exc_q14 : Words w32 320 s.exc_q14
  pub s_lpc_q14_buf : Words w32 16 s.s_lpc_q14_buf
  pub out_buf : Words w16 480 s.out_buf
  pub lag_prev : SFits w32 s.lag_prev
  pub fs_khz : SFits w32 s.fs_khz
  pub nb_subfr : SFits w32 s.nb_subfr
  pub frame_length : SFits w32 s.frame_length
  pub subfr_length : SFits w32 s.subfr_length
  pub ltp_mem_length : SFits w32 s.ltp_mem_length
  pub lpc_order : SFits w32 s.lpc_order
  pub prev_nlsf_q15 : Words w16 16 s.prev_nlsf_q15
  pub first_frame_after_reset : SFits w32 s.first_frame_after_reset
  pub s_cng : TypedCng s.s_cng
  pub loss_cnt : SFits w32 s.loss_cnt
  pub prev_signal_type : SFits w32 s.prev_signal_type
  pub s_plc : TypedPlc s.s_plc
  pub settings : TypedSettings s.settings

pub record TypedControl (c : SilkDecoderControl) : Type 0 where
  pub pitch_l : Words w32 4 c.pitch_l
  pub gains_q16 : Words w32 4 c.gains_q16
  pub ltp_coef_q14 : Words w16 20 c.ltp_coef_q14
  pub ltp_scale_q14 : SFits w32 c.ltp_scale_q14

-- two rows of 16 coefficients
pub record TypedRows (rows : List (List ℤ)) : Type 0 where
  pub first : Words w16 16 (get_or rows 0 [])
  pub second : Words w16 16 (get_or rows 1 [])

abbrev pub TypedLines : List ℤ → Type 0
TypedLines lines = Words w16 16 lines
