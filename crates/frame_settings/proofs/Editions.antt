-- A received frame under both editions.
use mathlib.Core.Path.{◌≡◌, refl, sym, ap, ◌∙◌}
use mathlib.Core.Bool.{Bool, true, false, false≢true}
use Rattle.edition.specs.Edition.{older, newer, is_edition}
use Rattle.decoder.specs.Settings.{settings_fit}
use Rattle.decoder.specs.declared.SilkDecoderState.{SilkDecoderState}
use Rattle.decoder.specs.declared.Params.{Params}
use Rattle.decoder.specs.declared.Frame.{Frame}
use Rattle.decoder.specs.declared.Frame.TheVariants.{Received, Lost}
use Rattle.decode_frame.specs.Call.{Call}
use Rattle.decode_frame.specs.Answer.{frame_refusal}
use Rattle.frame_settings.specs.Changed.{answer_by}
use Rattle.frame_settings.specs.Editions.{under, ReceivedAlike}
use Rattle.frame_settings.proofs.With.{by, refusal_with, answer_left, output-left, changed}

is_lost : Frame → Bool
is_lost (Received q) = false
is_lost Lost = true

module _ (s : SilkDecoderState) (x : Call) (q : Params) (f : x.frame ≡ Received q) where
  never : {A : Type 0} → x.frame ≡ Lost → A
  unfolding is_lost
  never z = absurd (false≢true (sym (ap is_lost f) ∙ ap is_lost z))

  refused : frame_refusal (under older s) x ≡ frame_refusal (under newer s) x
  unfolding settings_fit is_edition
  refused = refusal_with (by s.settings.squelch older) (by s.settings.squelch newer) s x refl

pub received_alike : ReceivedAlike
received_alike s x q f =
    let j = frame_refusal (under newer s) x in
    let k = refused s x q f in
    let answer =
    answer_left s x j (by s.settings.squelch older) k (never s x q f) ∙ changed (answer_by (under older)) j _ _ refl (λ r. refl)
    ∙ sym (ap (answer_by (under older)) (answer_left s x j (by s.settings.squelch newer) refl (never s x q f))) in
    let output = output-left s x j (by s.settings.squelch older) k (never s x q f) (never s x q f) ∙ sym (output-left s x j (by s.settings.squelch newer) refl (never s x q f) (never s x q f)) in
    (answer, output)
