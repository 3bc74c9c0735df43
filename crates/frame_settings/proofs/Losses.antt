-- A lost frame in which no step of a test leaves 32 bits.
use Prim.Native.Nat.{◌^◌}
use mathlib.Core.Path.{◌≡◌, refl, sym, ap, ◌∙◌}
use mathlib.Core.Bool.{Bool, cond}
use mathlib.Core.List.{◌++◌}
use lib.IntN.{ℤ, pos, ◌*ℤ◌}
use lib.ListN.{drop}
use Rattle.word.specs.Int.{floor_div, min_ℤ, max_ℤ}
use Rattle.macros.specs.Fixed.{smulwb}
use Rattle.edition.specs.Edition.{older, newer, is_edition}
use Rattle.stability.specs.Stability.{Stability, inverse_gain}
use Rattle.editions.proofs.Tests.{alike}
use Rattle.editions.proofs.Filters.{alike_filter}
use Rattle.refusal.specs.Refusals.{if_accepted}
use Rattle.shape.specs.Shape.{frame_length}
use Rattle.decoder.specs.Settings.{settings_fit, squelched}
use Rattle.decoder.specs.Reshape.{reshaped_by, reshaped}
use Rattle.decoder.specs.Outcome.{Outcome}
use Rattle.decoder.specs.declared.Settings.{Settings}
use Rattle.decoder.specs.declared.SilkDecoderState.{SilkDecoderState}
use Rattle.decoder.specs.declared.Frame.TheVariants.{Lost}
use Rattle.plc.specs.Conceal.{was_voiced, first, coefficients, noise_gain}
use Rattle.cng.specs.Noise.{noise_filter}
use Rattle.decode_frame.specs.WholeFrame.{muted}
use Rattle.decode_frame.specs.Call.{Call, shape_at, state_at}
use Rattle.decode_frame.specs.Answer.{frame_refusal, frame_outcome, frame_output}
use Rattle.frame_settings.specs.Changed.{answer_by}
use Rattle.frame_settings.specs.Editions.{under}
use Rattle.frame_settings.specs.Losses.{LostFits, LostAlike}
use Rattle.frame_settings.proofs.With.{by, LostWith, lost-with, same_edition, refusal_with, answer_left, changed}
use Rattle.frame_settings.proofs.Squelch.{lost-by}

module _ (s : SilkDecoderState) (x : Call) (f : x.frame ≡ Lost) (h : LostFits s x) where
  abbrev new : SilkDecoderState
  new = under newer s

  abbrev old_by : Settings
  old_by = by s.settings.squelch older

  refused : frame_refusal (under older s) x ≡ frame_refusal new x
  unfolding settings_fit is_edition
  refused = refusal_with old_by (by s.settings.squelch newer) s x refl

  lost_alike-with : LostWith old_by (shape_at x) (state_at new x) x.control
  unfolding noise_gain noise_filter coefficients reshaped reshaped_by
  lost_alike-with =
      let t = state_at new x in
      lost-with old_by (shape_at x) t x.control
      (ap (λ (r : Stability).
      cond (was_voiced t.prev_signal_type) (cond (first t.loss_cnt) (pos 31130) (pos 26214))
      (cond (first t.loss_cnt) (floor_div (smulwb (max_ℤ (pos (2 ^ 22)) (min_ℤ (pos (2 ^ 27)) (inverse_gain r)) *ℤ pos (2 ^ 3)) (pos 32440)) (2 ^ 14))
      (pos 29491))) (alike _ h.0))
      (alike_filter _ _ h.1)

  samples : (frame_outcome (under older s) x).samples ≡ (frame_outcome new x).samples
  unfolding squelched muted reshaped reshaped_by
  samples =
      let b = squelched new in
      ap (λ (o : Outcome). o.samples) (lost-by (under older s) x b f refl)
      ∙ ap (λ (o : Outcome). (muted (shape_at x) b o).samples) lost_alike-with
      ∙ sym (ap (λ (o : Outcome). o.samples) (lost-by new x b f refl))

pub lost_alike : LostAlike
unfolding frame_output
lost_alike s x f h =
    let n = under newer s in
    let j = frame_refusal n x in
    let v = by s.settings.squelch older in
    let w = by s.settings.squelch newer in
    let answer =
    answer_left n x j v (refused s x f h) (λ z. lost_alike-with s x f h) ∙ changed (answer_by (under older)) j _ _ refl (λ r. refl)
    ∙ sym (ap (answer_by (under older)) (answer_left n x j w refl (same_edition n x w refl))) in
    (answer, λ i. if_accepted (refused s x f h i) (samples s x f h i ++ drop (frame_length (shape_at x)) x.output) x.output)
