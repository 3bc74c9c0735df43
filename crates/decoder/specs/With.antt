-- A state with some of its fields changed.
use Rattle.std.specs.Prelude.{List, ℤ, pos}
use Rattle.shape.specs.Shape.{shape, subfr_length, frame_length, mem_length, lpc_order}
use Rattle.decoder.specs.declared.SilkCNGState.{SilkCNGState}
use Rattle.decoder.specs.declared.SilkPLCState.{SilkPLCState}
use Rattle.decoder.specs.declared.Settings.{Settings}
use Rattle.decoder.specs.declared.SilkDecoderState.{SilkDecoderState}

-- a state of the sizes of s, and all else anew
abbrev pub build : SilkDecoderState → ℤ → List ℤ → List ℤ → List ℤ → ℤ → List ℤ → ℤ → SilkCNGState → ℤ → ℤ → SilkPLCState → Settings → SilkDecoderState
build s gain exc memory buf lag lines first noise losses type plc settings =
    record {
      prev_gain_q16 = gain;
      exc_q14 = exc;
      s_lpc_q14_buf = memory;
      out_buf = buf;
      lag_prev = lag;
      fs_khz = s.fs_khz;
      nb_subfr = s.nb_subfr;
      frame_length = s.frame_length;
      subfr_length = s.subfr_length;
      ltp_mem_length = s.ltp_mem_length;
      lpc_order = s.lpc_order;
      prev_nlsf_q15 = lines;
      first_frame_after_reset = first;
      s_cng = noise;
      loss_cnt = losses;
      prev_signal_type = type;
      s_plc = plc;
      settings = settings;
    }

-- a state with one field changed
module _ (s : SilkDecoderState) where
  abbrev pub with_gain : ℤ → SilkDecoderState
  with_gain gain = build s gain s.exc_q14 s.s_lpc_q14_buf s.out_buf s.lag_prev s.prev_nlsf_q15 s.first_frame_after_reset s.s_cng s.loss_cnt s.prev_signal_type s.s_plc s.settings

  abbrev pub with_exc : List ℤ → SilkDecoderState
  with_exc exc = build s s.prev_gain_q16 exc s.s_lpc_q14_buf s.out_buf s.lag_prev s.prev_nlsf_q15 s.first_frame_after_reset s.s_cng s.loss_cnt s.prev_signal_type s.s_plc s.settings

  abbrev pub with_memory : List ℤ → SilkDecoderState
  with_memory memory = build s s.prev_gain_q16 s.exc_q14 memory s.out_buf s.lag_prev s.prev_nlsf_q15 s.first_frame_after_reset s.s_cng s.loss_cnt s.prev_signal_type s.s_plc s.settings

  abbrev pub with_out_buf : List ℤ → SilkDecoderState
  with_out_buf buf = build s s.prev_gain_q16 s.exc_q14 s.s_lpc_q14_buf buf s.lag_prev s.prev_nlsf_q15 s.first_frame_after_reset s.s_cng s.loss_cnt s.prev_signal_type s.s_plc s.settings

  abbrev pub with_lag : ℤ → SilkDecoderState
  with_lag lag = build s s.prev_gain_q16 s.exc_q14 s.s_lpc_q14_buf s.out_buf lag s.prev_nlsf_q15 s.first_frame_after_reset s.s_cng s.loss_cnt s.prev_signal_type s.s_plc s.settings

  abbrev pub with_lines : List ℤ → SilkDecoderState
  with_lines lines = build s s.prev_gain_q16 s.exc_q14 s.s_lpc_q14_buf s.out_buf s.lag_prev lines s.first_frame_after_reset s.s_cng s.loss_cnt s.prev_signal_type s.s_plc s.settings

  abbrev pub with_first : ℤ → SilkDecoderState
  with_first first = build s s.prev_gain_q16 s.exc_q14 s.s_lpc_q14_buf s.out_buf s.lag_prev s.prev_nlsf_q15 first s.s_cng s.loss_cnt s.prev_signal_type s.s_plc s.settings

  abbrev pub with_noise : SilkCNGState → SilkDecoderState
  with_noise noise = build s s.prev_gain_q16 s.exc_q14 s.s_lpc_q14_buf s.out_buf s.lag_prev s.prev_nlsf_q15 s.first_frame_after_reset noise s.loss_cnt s.prev_signal_type s.s_plc s.settings

  abbrev pub with_losses : ℤ → SilkDecoderState
  with_losses losses = build s s.prev_gain_q16 s.exc_q14 s.s_lpc_q14_buf s.out_buf s.lag_prev s.prev_nlsf_q15 s.first_frame_after_reset s.s_cng losses s.prev_signal_type s.s_plc s.settings

  abbrev pub with_type : ℤ → SilkDecoderState
  with_type type = build s s.prev_gain_q16 s.exc_q14 s.s_lpc_q14_buf s.out_buf s.lag_prev s.prev_nlsf_q15 s.first_frame_after_reset s.s_cng s.loss_cnt type s.s_plc s.settings

  abbrev pub with_plc : SilkPLCState → SilkDecoderState
  with_plc plc = build s s.prev_gain_q16 s.exc_q14 s.s_lpc_q14_buf s.out_buf s.lag_prev s.prev_nlsf_q15 s.first_frame_after_reset s.s_cng s.loss_cnt s.prev_signal_type plc s.settings

  abbrev pub with_settings : Settings → SilkDecoderState
  with_settings settings = build s s.prev_gain_q16 s.exc_q14 s.s_lpc_q14_buf s.out_buf s.lag_prev s.prev_nlsf_q15 s.first_frame_after_reset s.s_cng s.loss_cnt s.prev_signal_type s.s_plc settings

  -- with other sizes
  abbrev pub with_sizes : (khz nb frame subfr mem order : ℤ) → SilkDecoderState
  with_sizes khz nb frame subfr mem order =
      record {
        prev_gain_q16 = s.prev_gain_q16;
        exc_q14 = s.exc_q14;
        s_lpc_q14_buf = s.s_lpc_q14_buf;
        out_buf = s.out_buf;
        lag_prev = s.lag_prev;
        fs_khz = khz;
        nb_subfr = nb;
        frame_length = frame;
        subfr_length = subfr;
        ltp_mem_length = mem;
        lpc_order = order;
        prev_nlsf_q15 = s.prev_nlsf_q15;
        first_frame_after_reset = s.first_frame_after_reset;
        s_cng = s.s_cng;
        loss_cnt = s.loss_cnt;
        prev_signal_type = s.prev_signal_type;
        s_plc = s.s_plc;
        settings = s.settings;
      }

  -- with a rate, a count of subframes, and the lengths and the order that follow from them
  abbrev pub with_shape : ℤ → ℤ → SilkDecoderState
  with_shape khz nb =
      let p = shape khz nb in
      with_sizes khz nb (pos (frame_length p)) (pos (subfr_length p)) (pos (mem_length p)) (pos (lpc_order p))
