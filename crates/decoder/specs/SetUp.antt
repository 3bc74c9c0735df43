-- Document 01, "Set-up gives the crate's default state with these sizes filled in" (decoder_structs.rs, Default).
use Rattle.std.specs.Prelude.{Result, not, [], ◌∷◌, ℤ, pos, replicate}
use Rattle.refusal.specs.Refusals.{Judged, answered}
use Rattle.refusal.specs.First.{◌gives◌, first_of}
use Rattle.refusal.specs.declared.Refusal.{Refusal}
use Rattle.refusal.specs.declared.Refusal.TheVariants.{Rate, Size, Squelch, Edition}
use Rattle.shape.specs.Shape.{is_rate, is_count}
use Rattle.edition.specs.Edition.{is_edition}
use Rattle.decoder.specs.With.{with_shape, with_settings}
use Rattle.decoder.specs.Settings.{is_squelch, default_settings}
use Rattle.decoder.specs.declared.Settings.{Settings}
use Rattle.decoder.specs.declared.SilkCNGState.{SilkCNGState}
use Rattle.decoder.specs.declared.SilkPLCState.{SilkPLCState}
use Rattle.decoder.specs.declared.SilkDecoderState.{SilkDecoderState}

unfoldable pub cng_default : SilkCNGState
cng_default =
    record {
      cng_exc_buf_q14 = replicate 320 (pos 0);
      cng_smth_nlsf_q15 = replicate 16 (pos 0);
      cng_synth_state = replicate 16 (pos 0);
      cng_smth_gain_q16 = pos 0;
      rand_seed = pos 0;
      fs_khz = pos 0;
    }

unfoldable pub plc_default : SilkPLCState
plc_default =
    record {
      pitch_l_q8 = pos 0;
      ltp_coef_q14 = replicate 5 (pos 0);
      prev_lpc_q12 = replicate 16 (pos 0);
      last_frame_lost = pos 0;
      rand_seed = pos 0;
      rand_scale_q14 = pos 0;
      conc_energy = pos 0;
      conc_energy_shift = pos 0;
      prev_ltp_scale_q14 = pos 0;
      prev_gain_q16 = replicate 2 (pos 0);
      fs_khz = pos 0;
      nb_subfr = pos 0;
      subfr_length = pos 0;
    }

-- the default state, with no shape and the default settings
unfoldable pub silk_default : SilkDecoderState
silk_default =
    record {
      prev_gain_q16 = pos 65536;
      exc_q14 = replicate 320 (pos 0);
      s_lpc_q14_buf = replicate 16 (pos 0);
      out_buf = replicate 480 (pos 0);
      lag_prev = pos 100;
      fs_khz = pos 0;
      nb_subfr = pos 0;
      frame_length = pos 0;
      subfr_length = pos 0;
      ltp_mem_length = pos 0;
      lpc_order = pos 0;
      prev_nlsf_q15 = replicate 16 (pos 0);
      first_frame_after_reset = pos 1;
      s_cng = cng_default;
      loss_cnt = pos 0;
      prev_signal_type = pos 0;
      s_plc = plc_default;
      settings = default_settings;
    }

-- with a rate, a count, the sizes that follow from them, and settings
unfoldable pub state_from : ℤ → ℤ → Settings → SilkDecoderState
state_from khz nb v = with_settings (with_shape silk_default khz nb) v

-- rows 1 and 2 for a rate and a count alone, and 14 and 22 (document 02, Notes 3 and 10) for the settings
unfoldable pub set_up_refusal : ℤ → ℤ → Settings → Judged
set_up_refusal khz nb v =
    first_of ((not (is_rate khz) gives Rate) ∷ (not (is_count nb) gives Size) ∷ (not (is_squelch v.squelch) gives Squelch) ∷ (not (is_edition v.edition) gives Edition) ∷ [])

-- set-up for a rate, a count of subframes and settings
unfoldable pub set_up_with : ℤ → ℤ → Settings → Result SilkDecoderState Refusal
set_up_with khz nb v = answered (set_up_refusal khz nb v) (state_from khz nb v)

-- set-up that names no settings
unfoldable pub set_up : ℤ → ℤ → Result SilkDecoderState Refusal
set_up khz nb = set_up_with khz nb default_settings
