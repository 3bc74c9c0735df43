-- What is known of a recording that is read.
use Prim.Native.Nat.{ℕ}
use mathlib.Core.Path.{◌≡◌, refl, sym, ap, ◌∙◌}
use mathlib.Core.Bool.{true, false≢true}
use mathlib.Core.List.{List}
use mir.Syntax.{w32}
use mir.Val.{to_z, of_z}
use mir.Facts.{to_z-of_z}
use Rattle.std.specs.Prelude.{Ok, Err, is_ok}
use Rattle.refusal.specs.declared.Refusal.{Refusal}
use Rattle.refusal.proofs.Clear.{answered_is}
use Rattle.edition.specs.Edition.{is_edition}
use Rattle.decoder.specs.Settings.{settings_fit, is_squelch}
use Rattle.decoder.specs.Ranges.{within}
use Rattle.decoder.specs.SetUp.{set_up_with}
use Rattle.decoder.specs.declared.SilkDecoderState.{SilkDecoderState}
use Rattle.decoder.proofs.SetUps.{set_up_state, rate_fits, count_fits}
use Rattle.recording.specs.Frames.{rate_in, count_in}
use Rattle.recording.specs.Reading.{read_of}
use Rattle.recording.specs.declared.Recording.{Recording}
use Rattle.recording.proofs.Accepted.{rows, rate_is, count_is}
use Rattle.playback.specs.Playback.{plain, start_of}

pub settings-fit : settings_fit plain ≡ true
unfolding settings_fit is_squelch is_edition within
settings-fit = refl

module _ (b : List ℕ) (r : Recording) (e : read_of b ≡ Ok r) where
  pub rate-back : to_z w32 (of_z w32 r.rate) ≡ rate_in b
  rate-back = ap (λ z. to_z w32 (of_z w32 z)) (rate_is b r e) ∙ to_z-of_z (rate_fits (rate_in b) (rows b r e).rate)

  pub count-back : to_z w32 (of_z w32 r.subframes) ≡ count_in b
  count-back = ap (λ z. to_z w32 (of_z w32 z)) (count_is b r e) ∙ to_z-of_z (count_fits (count_in b) (rows b r e).count)

  -- its post is set up
  sets-up : set_up_with (to_z w32 (of_z w32 r.rate)) (to_z w32 (of_z w32 r.subframes)) plain ≡ Ok (start_of b)
  sets-up = (λ i. set_up_with (rate-back i) (count-back i) plain) ∙ set_up_state (rate_in b) (count_in b) plain (rows b r e).rate (rows b r e).count settings-fit

  pub started : (s : SilkDecoderState) → set_up_with (to_z w32 (of_z w32 r.rate)) (to_z w32 (of_z w32 r.subframes)) plain ≡ Ok s → s ≡ start_of b
  started s h = sym (answered_is (Ok tt) (start_of b) s (sym sets-up ∙ h)).1

  pub starts : {f : Refusal} → set_up_with (to_z w32 (of_z w32 r.rate)) (to_z w32 (of_z w32 r.subframes)) plain ≡ Err f → ⊥
  starts h = false≢true (ap is_ok (sym h ∙ sets-up))
