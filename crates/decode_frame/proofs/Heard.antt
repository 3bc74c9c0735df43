-- A received frame after its history, and a lost one after its concealment, by the parts of the state.
use Prim.Native.Nat.{◌-◌}
use mathlib.Core.Path.{◌≡◌, refl, sym, ap, ◌∙◌}
use mathlib.Core.Bool.{false, cond}
use mathlib.Core.List.{List}
use lib.IntN.{ℤ, pos}
use lib.ListN.{get_or}
use Rattle.word.specs.Int.{eq_ℤ}
use Rattle.sigproc.specs.Energy.{energy_at, energy_shift}
use Rattle.shape.specs.Shape.{Shape, frame_length, lpc_order}
use Rattle.decoder.specs.With.{with_lag, with_first, with_noise, with_losses, with_type, with_plc}
use Rattle.decoder.specs.Outcome.{Outcome}
use Rattle.decoder.specs.Signals.{signal_number}
use Rattle.decoder.specs.declared.SilkCNGState.{SilkCNGState}
use Rattle.decoder.specs.declared.SilkPLCState.{SilkPLCState}
use Rattle.decoder.specs.declared.SilkDecoderState.{SilkDecoderState}
use Rattle.decoder.specs.declared.SilkDecoderControl.{SilkDecoderControl}
use Rattle.decoder.specs.declared.Signal.{Signal}
use Rattle.plc.specs.Update.{updated_by, plc_update}
use Rattle.cng.specs.Noise.{cng_ready, heard_noise, sounding, sounded, comfort_noise}
use Rattle.cng.proofs.Cases.{lost-is}
use Rattle.glue.specs.Glue.{hold_energy, joined, glue_frames}
use Rattle.decode_frame.specs.WholeFrame.{resumed, lag_kept, finished}
use Rattle.decode_frame.proofs.Noised.{glued}

module _ (p : Shape) (t : SilkDecoderState) (c : SilkDecoderControl) (x : List ℤ) (signal : Signal) (rows : List (List ℤ)) where
  abbrev pub updated : SilkPLCState
  updated = updated_by p signal c rows t.s_plc

  abbrev pub heard : Outcome
  heard =
      record {
        state =
            with_plc
            (with_type
            (with_losses
            (with_noise
            (with_first
            (with_lag t (get_or c.pitch_l (p.subframes - 1) (pos 0)))
            (pos 0))
            (heard_noise p t.exc_q14 t.prev_nlsf_q15 c.gains_q16 (signal_number signal) t.s_cng))
            (pos 0))
            (signal_number signal))
            (hold_energy updated (pos 0) updated.conc_energy updated.conc_energy_shift);
        control = c;
        samples = cond (eq_ℤ updated.last_frame_lost (pos 0)) x (joined updated.conc_energy updated.conc_energy_shift x);
      }

  pub heard-is : heard ≡ finished p (record { state = resumed (plc_update p t signal c rows) (signal_number signal); control = c; samples = x })
  unfolding finished resumed plc_update comfort_noise glue_frames lag_kept
  heard-is = refl

module _ (p : Shape) (s : SilkDecoderState) (c : SilkDecoderControl) (x : List ℤ) where
  abbrev before : SilkCNGState
  before = cng_ready p.rate s.s_cng

  abbrev pub sound : List ℤ
  sound = sounding s.settings.edition (lpc_order p) s.s_plc.rand_scale_q14 (get_or s.s_plc.prev_gain_q16 1 (pos 0)) before (frame_length p) x

  abbrev pub faded : Outcome
  faded =
      record {
        state =
            with_plc
            (with_noise (with_lag s (get_or c.pitch_l (p.subframes - 1) (pos 0))) (sounded s.settings.edition (lpc_order p) before (frame_length p)))
            (hold_energy s.s_plc (pos 1) (pos (energy_at sound (energy_shift sound))) (pos (energy_shift sound)));
        control = c;
        samples = sound;
      }

  joined-on : eq_ℤ s.loss_cnt (pos 0) ≡ false → glued p c (record { state = with_noise s (sounded s.settings.edition (lpc_order p) before (frame_length p)); frame = sound }) ≡ faded
  unfolding glue_frames lag_kept
  joined-on e = rw e refl

  pub faded-is : eq_ℤ s.loss_cnt (pos 0) ≡ false → faded ≡ finished p (record { state = s; control = c; samples = x })
  unfolding finished
  faded-is e = sym (ap (glued p c) (lost-is p s c.gains_q16 (frame_length p) x e) ∙ joined-on e)
