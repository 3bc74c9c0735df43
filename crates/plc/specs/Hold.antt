-- What concealment holds, and its reset (plc.rs, silk_plc_reset).
use Rattle.std.specs.Prelude.{ℕ, ◌*◌, ◌^◌, cond, List, [], ◌∷◌, ℤ, pos}
use Rattle.word.specs.Int.{eq_ℤ}
use Rattle.shape.specs.Shape.{Shape, rate_of, frame_length}
use Rattle.decoder.specs.declared.SilkPLCState.{SilkPLCState}

-- the shape of a rate's number and a count of subframes
abbrev pub shape_at : ℤ → ℕ → Shape
shape_at khz n = record { rate = rate_of khz; subframes = n }

-- what update and concealment may change of h; the rest belongs to gluing
abbrev pub hold : SilkPLCState → ℤ → List ℤ → List ℤ → ℤ → ℤ → ℤ → List ℤ → ℤ → ℤ → ℤ → SilkPLCState
hold h pitch taps lpc seed scale ltpScale gains rate n l =
    record {
      pitch_l_q8 = pitch;
      ltp_coef_q14 = taps;
      prev_lpc_q12 = lpc;
      last_frame_lost = h.last_frame_lost;
      rand_seed = seed;
      rand_scale_q14 = scale;
      conc_energy = h.conc_energy;
      conc_energy_shift = h.conc_energy_shift;
      prev_ltp_scale_q14 = ltpScale;
      prev_gain_q16 = gains;
      fs_khz = rate;
      nb_subfr = n;
      subfr_length = l;
    }

-- pitch half the frame (Q8), gains 65,536, two subframes of 20
unfoldable pub plc_reset : Shape → SilkPLCState → SilkPLCState
plc_reset p h =
    hold h (pos (frame_length p * 2 ^ 7)) h.ltp_coef_q14 h.prev_lpc_q12 h.rand_seed h.rand_scale_q14
    h.prev_ltp_scale_q14
    (pos 65536 ∷ pos 65536 ∷ [])
    (pos p.rate)
    (pos 2)
    (pos 20)

-- if its rate differs, concealment resets
unfoldable pub plc_ready : Shape → SilkPLCState → SilkPLCState
plc_ready p h = cond (eq_ℤ (pos p.rate) h.fs_khz) h (plc_reset p h)
