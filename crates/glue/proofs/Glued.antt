-- Gluing keeps the frame's length, the ranges of what concealment holds, and the types.
use Prim.Native.Nat.{ℕ, zero, suc, ◌^◌, ◌≤◌, zero-le}
use mathlib.Core.Path.{◌≡◌, refl, ap, ◌∙◌}
use mathlib.Core.Bool.{cond}
use mathlib.Core.List.{List, [], ◌∷◌}
use native.Mathlib.Omega.{arith}
use lib.Dec.{ltb}
use lib.IntN.{ℤ, pos, nat_abs, ◌+ℤ◌, ◌-ℤ◌, ◌*ℤ◌}
use lib.ListN.{length, get_or}
use lib.Signed.{lt_z, quot_z}
use mir.Syntax.{w16, w32}
use mir.Val.{SFits}
use Rattle.word.specs.Int.{eq_ℤ, wrap32}
use Rattle.word.specs.Size.{Bounded}
use Rattle.word.proofs.Sizes.{fits-abs}
use Rattle.word.proofs.Words.{wrap-fits}
use Rattle.word.proofs.Fits.{AllFit}
use Rattle.sigproc.specs.Energy.{energy_at, energy_shift}
use Rattle.sigproc.proofs.Energies.{energy_small}
use Rattle.decoder.specs.Typed.{Words, TypedPlc, Typed}
use Rattle.decoder.specs.declared.SilkPLCState.{SilkPLCState}
use Rattle.decoder.specs.declared.SilkDecoderState.{SilkDecoderState}
use Rattle.decoder.proofs.Between.{either, Between}
use Rattle.decoder.proofs.Bounds.{PlcBounds}
use Rattle.decoder.proofs.Built.{typed_plc}
use Rattle.glue.specs.Glue.{hold_energy, ramped, start_gain, lowered, joined, glue_frames}
use Rattle.glue.proofs.Shifts.{shift_most}

-- ---- what concealment holds
module _ (r : ℕ) (h : SilkPLCState) (lost energy shift : ℤ) (b : PlcBounds r h) (fl : Between 0 1 lost) (fe : energy ≡ pos (nat_abs energy)) (fs : Between 0 31 shift) where
  held-bounds : PlcBounds r (hold_energy h lost energy shift)
  held-bounds =
      record {
        last_frame_lost = fl;
        ltp_coef_q14 = b.ltp_coef_q14;
        rand_scale_q14 = b.rand_scale_q14;
        prev_ltp_scale_q14 = b.prev_ltp_scale_q14;
        conc_energy = fe;
        conc_energy_shift = fs;
        held = λ k. let g = b.held k in record { pitch_l_q8 = g.pitch_l_q8; prev_gain_q16 = g.prev_gain_q16; subframes = g.subframes };
      }

pub glued-bounds : (r : ℕ) (s : SilkDecoderState) (frame : List ℤ) → length frame ≤ 320 → PlcBounds r s.s_plc → PlcBounds r (glue_frames s frame).state.s_plc
unfolding glue_frames
glued-bounds r s frame m b =
    let h = s.s_plc in
    either (PlcBounds r) (eq_ℤ s.loss_cnt (pos 0)) {x = hold_energy h (pos 0) h.conc_energy h.conc_energy_shift} {y = hold_energy h (pos 1) (pos (energy_at frame (energy_shift frame))) (pos (energy_shift frame))}
    (held-bounds r h (pos 0) h.conc_energy h.conc_energy_shift b (record { is = refl; low = zero-le; high = omega arith }) b.conc_energy b.conc_energy_shift)
    (held-bounds r h (pos 1) (pos (energy_at frame (energy_shift frame))) (pos (energy_shift frame)) b (record { is = refl; low = zero-le; high = omega arith }) refl (record { is = refl; low = zero-le; high = shift_most frame m }))

-- ---- types
module _ (h : SilkPLCState) (lost energy shift : ℤ) (t : TypedPlc h) (fl : SFits w32 lost) (fe : SFits w32 energy) (fs : SFits w32 shift) where
  held-typed : TypedPlc (hold_energy h lost energy shift)
  held-typed =
      record {
        pitch_l_q8 = t.pitch_l_q8;
        ltp_coef_q14 = t.ltp_coef_q14;
        prev_lpc_q12 = t.prev_lpc_q12;
        last_frame_lost = fl;
        rand_seed = t.rand_seed;
        rand_scale_q14 = t.rand_scale_q14;
        conc_energy = fe;
        conc_energy_shift = fs;
        prev_ltp_scale_q14 = t.prev_ltp_scale_q14;
        prev_gain_q16 = t.prev_gain_q16;
        fs_khz = t.fs_khz;
        nb_subfr = t.nb_subfr;
        subfr_length = t.subfr_length;
      }

pub glued_typed : (s : SilkDecoderState) (n : ℕ) (frame : List ℤ) → 1 ≤ n → n ≤ 320 → Words w16 n frame → Typed s → Typed (glue_frames s frame).state
unfolding glue_frames
glued_typed s n frame l m w t =
    let h = s.s_plc in
    let c = w.count in
    let b : Bounded 32768 frame = λ i. fits-abs (get_or frame i (pos 0)) (w.fits i) in
    let e = energy_small frame b (omega arith) (omega arith) in
    let k = shift_most frame (omega arith) in
    typed_plc t
    (either TypedPlc (eq_ℤ s.loss_cnt (pos 0)) {x = hold_energy h (pos 0) h.conc_energy h.conc_energy_shift} {y = hold_energy h (pos 1) (pos (energy_at frame (energy_shift frame))) (pos (energy_shift frame))}
    (held-typed h (pos 0) h.conc_energy h.conc_energy_shift t.s_plc (record { sfits = omega arith }) t.s_plc.conc_energy t.s_plc.conc_energy_shift)
    (held-typed h (pos 1) (pos (energy_at frame (energy_shift frame))) (pos (energy_shift frame)) t.s_plc (record { sfits = omega arith }) (record { sfits = omega arith }) (record { sfits = omega arith })))

-- ---- what gluing leaves of concealment
pub record Glued (h k : SilkPLCState) : Type 0 where
  pub taps : k.ltp_coef_q14 ≡ h.ltp_coef_q14
  pub coefs : k.prev_lpc_q12 ≡ h.prev_lpc_q12
  pub scale : k.rand_scale_q14 ≡ h.rand_scale_q14
  pub ltp : k.prev_ltp_scale_q14 ≡ h.prev_ltp_scale_q14
  pub gains : k.prev_gain_q16 ≡ h.prev_gain_q16
  pub rate : k.fs_khz ≡ h.fs_khz

energy_only : (h : SilkPLCState) (lost energy shift : ℤ) → Glued h (hold_energy h lost energy shift)
energy_only h lost energy shift = record { taps = refl; coefs = refl; scale = refl; ltp = refl; gains = refl; rate = refl }

pub glued : (s : SilkDecoderState) (frame : List ℤ) → Glued s.s_plc (glue_frames s frame).state.s_plc
unfolding glue_frames
glued s frame =
    let h = s.s_plc in
    either (Glued h) (eq_ℤ s.loss_cnt (pos 0)) (energy_only h (pos 0) h.conc_energy h.conc_energy_shift)
    (energy_only h (pos 1) (pos (energy_at frame (energy_shift frame))) (pos (energy_shift frame)))
