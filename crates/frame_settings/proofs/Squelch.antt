-- What a squelch changes of a whole frame.
use mathlib.Core.Path.{◌≡◌, refl, sym, ap, ◌∙◌}
use mathlib.Core.Bool.{Bool, true, false, ◌&&◌}
use mathlib.Core.List.{◌++◌}
use lib.IntN.{ℤ, pos}
use lib.ListN.{drop}
use Rattle.edition.specs.Edition.{is_edition}
use Rattle.refusal.specs.Refusals.{if_accepted}
use Rattle.shape.specs.Shape.{frame_length}
use Rattle.decoder.specs.Ranges.{within}
use Rattle.decoder.specs.Settings.{is_squelch, settings_fit, squelched}
use Rattle.decoder.specs.Reshape.{reshaped_by, reshaped}
use Rattle.decoder.specs.declared.SilkDecoderState.{SilkDecoderState}
use Rattle.decoder.specs.declared.Frame.{Frame}
use Rattle.decoder.specs.declared.Frame.TheVariants.{Lost}
use Rattle.decode_frame.specs.WholeFrame.{lost, muted, whole_frame}
use Rattle.decode_frame.specs.Call.{Call, shape_at, state_at}
use Rattle.decode_frame.specs.Answer.{frame_refusal, frame_outcome, frame_output}
use Rattle.frame_settings.specs.Changed.{answer_by}
use Rattle.frame_settings.specs.Squelch.{with_squelch, StateAsBefore, SamplesAsBefore, LostAsBefore, PlaysZeros}
use Rattle.frame_settings.proofs.With.{by, same_edition, refusal_with, answer_left, output-left, changed}

module _ (q : ℤ) (s : SilkDecoderState) (x : Call) (e : is_squelch q ≡ true) where
  refused : frame_refusal (with_squelch q s) x ≡ frame_refusal (with_squelch (pos 0) s) x
  unfolding settings_fit is_squelch within
  refused = refusal_with (by q s.settings.edition) (by (pos 0) s.settings.edition) s x (ap (λ (b : Bool). b && is_edition s.settings.edition) e)

pub state_as_before : StateAsBefore
state_as_before q s x e =
    let j = frame_refusal (with_squelch (pos 0) s) x in
    answer_left s x j (by q s.settings.edition) (refused q s x e) (same_edition s x (by q s.settings.edition) refl) ∙ changed (answer_by (with_squelch q)) j _ _ refl (λ r. refl)
    ∙ sym (ap (answer_by (with_squelch q)) (answer_left s x j (by (pos 0) s.settings.edition) refl (same_edition s x (by (pos 0) s.settings.edition) refl)))

pub samples_as_before : SamplesAsBefore
unfolding squelched
samples_as_before q s x e k =
    let r = frame_refusal (with_squelch (pos 0) s) x in
    output-left s x r (by q s.settings.edition) (refused q s x e) (same_edition s x (by q s.settings.edition) refl) k ∙ sym (output-left s x r (by (pos 0) s.settings.edition) refl (same_edition s x (by (pos 0) s.settings.edition) refl) (λ z. refl))

-- a lost frame as it is squelched or not
pub lost-by : (s : SilkDecoderState) (x : Call) (b : Bool) → x.frame ≡ Lost → squelched s ≡ b → frame_outcome s x ≡ muted (shape_at x) b (lost (shape_at x) (state_at s x) x.control)
unfolding whole_frame squelched reshaped reshaped_by
lost-by s x b f e =
    ap (λ (z : Frame). whole_frame (shape_at x) (state_at s x) z x.control x.rows x.lines x.pulses) f
    ∙ ap (λ (z : Bool). muted (shape_at x) z (lost (shape_at x) (state_at s x) x.control)) e

pub lost_as_before : LostAsBefore
unfolding muted
lost_as_before s x f e = lost-by s x false f e

pub plays_zeros : PlaysZeros
unfolding frame_output muted
plays_zeros s x f e r i = if_accepted (r i) ((lost-by s x true f e i).samples ++ drop (frame_length (shape_at x)) x.output) x.output
