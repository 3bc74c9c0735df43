-- Gluing: the first frame received after a loss starts no louder than the concealed one was (plc.rs, silk_plc_glue_frames).
use Rattle.std.specs.Prelude.{ℕ, ◌-◌, ◌^◌, cond, List, [], ◌∷◌, ltb, ℤ, pos, nat_abs, ◌+ℤ◌, ◌-ℤ◌, ◌*ℤ◌, length}
use Rattle.std.specs.Int.Signed.{lt_z, quot_z}
use Rattle.word.specs.Int.{floor_div, eq_ℤ, wrap16, wrap32, max_ℤ}
use Rattle.macros.specs.Fixed.{smulwb, sqrt_approx, clz32}
use Rattle.sigproc.specs.Energy.{energy_at, energy_shift}
use Rattle.decoder.specs.With.{with_plc}
use Rattle.decoder.specs.Outcome.{Framed}
use Rattle.decoder.specs.declared.SilkPLCState.{SilkPLCState}
use Rattle.decoder.specs.declared.SilkDecoderState.{SilkDecoderState}

-- what gluing may change of what concealment holds
abbrev pub hold_energy : SilkPLCState → ℤ → ℤ → ℤ → SilkPLCState
hold_energy h lost energy shift =
    record {
      pitch_l_q8 = h.pitch_l_q8;
      ltp_coef_q14 = h.ltp_coef_q14;
      prev_lpc_q12 = h.prev_lpc_q12;
      last_frame_lost = lost;
      rand_seed = h.rand_seed;
      rand_scale_q14 = h.rand_scale_q14;
      conc_energy = energy;
      conc_energy_shift = shift;
      prev_ltp_scale_q14 = h.prev_ltp_scale_q14;
      prev_gain_q16 = h.prev_gain_q16;
      fs_khz = h.fs_khz;
      nb_subfr = h.nb_subfr;
      subfr_length = h.subfr_length;
    }

-- samples times a gain (Q16) that grows by a slope at each, up to the first gain above one
unfoldable pub ramped : ℤ → ℤ → List ℤ → List ℤ
ramped gain slope [] = []
ramped gain slope (x ∷ xs) =
    let next = wrap32 (gain +ℤ slope) in
    wrap16 (smulwb gain x) ∷ cond (lt_z (pos 65536) next) xs (ramped next slope xs)

-- about the root of the ratio of two energies (Q16)
unfoldable pub start_gain : ℕ → ℕ → ℤ
start_gain concealed received =
    let lz = clz32 (pos concealed) - 1 in
    let up = wrap32 (pos concealed *ℤ pos (2 ^ lz)) in
    let down = floor_div (pos received) (2 ^ (24 - lz)) in
    wrap32 (sqrt_approx (quot_z up (max_ℤ down (pos 1))) *ℤ pos (2 ^ 4))

-- a number shifted down by what one shift is above another
unfoldable pub lowered : ℤ → ℕ → ℕ → ℕ
lowered energy to from = nat_abs (floor_div energy (2 ^ (to - from)))

-- a received frame after a lost one that left an energy and a shift: ramped if it has more energy, both energies at the larger shift
unfoldable pub joined : ℤ → ℤ → List ℤ → List ℤ
joined energy held frame =
    let shift = energy_shift frame in
    let received = lowered (pos (energy_at frame shift)) (nat_abs held) shift in
    let concealed = lowered energy shift (nat_abs held) in
    let gain = start_gain concealed received in
    let slope = wrap32 (quot_z (wrap32 (pos 65536 -ℤ gain)) (pos (length frame)) *ℤ pos (2 ^ 2)) in
    cond (ltb concealed received) (ramped gain slope frame) frame

-- silk_plc_glue_frames on a frame: a lost one leaves its energy, a received one is joined if the last was lost
unfoldable pub glue_frames : SilkDecoderState → List ℤ → Framed
glue_frames s frame =
    let h = s.s_plc in
    let received = eq_ℤ s.loss_cnt (pos 0) in
    let shift = energy_shift frame in
    let after =
    cond received (hold_energy h (pos 0) h.conc_energy h.conc_energy_shift)
    (hold_energy h (pos 1) (pos (energy_at frame shift)) (pos shift)) in
    record {
      state = with_plc s after;
      frame = cond received (cond (eq_ℤ h.last_frame_lost (pos 0)) frame (joined h.conc_energy h.conc_energy_shift frame)) frame;
    }
