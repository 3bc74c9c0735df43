-- The answer for a recording, refused or not.
use Prim.Native.Nat.{ℕ}
use mathlib.Core.Path.{◌≡◌, refl, sym, ◌∙◌}
use mathlib.Core.Bool.{Bool, true, false, not, ◌||◌}
use mathlib.Core.List.{List, [], ◌∷◌}
use lib.IntN.{ℤ, pos}
use lib.ListN.{length}
use Rattle.std.specs.Prelude.{Ok, Err}
use Rattle.refusal.specs.First.{◌gives◌, first_of}
use Rattle.refusal.specs.Refusals.{code_of}
use Rattle.refusal.specs.declared.Refusal.{Refusal}
use Rattle.refusal.specs.declared.Refusal.TheVariants.{Limit}
use Rattle.refusal.proofs.Clear.{accepted, row_err, row_ok, answered_err, answered_ok}
use Rattle.decoder.specs.Ranges.{within}
use Rattle.recording.specs.Frames.{rate_in, count_in, frames_in}
use Rattle.recording.specs.Reading.{read_refusal}
use Rattle.playback.specs.Playback.{start_of}
use Rattle.culprit.specs.Search.{passes, is_culprit, first_from}
use Rattle.single_loss.specs.Answer.{loss_refusal, culprit_at, loss_answer}

-- two rows of one number are one row
two_rows : (s t : Bool) → first_of (((s || t) gives Limit) ∷ []) ≡ first_of ((s gives Limit) ∷ (t gives Limit) ∷ [])
unfolding first_of
two_rows true t = refl
two_rows false t = refl

module _ (b : List ℕ) (l : ℤ) where
  pub refused : {e : Refusal} → loss_refusal b l ≡ Err e → Err e ≡ loss_answer b l
  unfolding loss_answer
  refused h = sym (answered_err (loss_refusal b l) _ h)

  -- refused by what reading refuses
  pub unread : {e : Refusal} → read_refusal b ≡ Err e → loss_refusal b l ≡ Err e
  unfolding loss_refusal
  unread h = rw h refl

  -- a recording that is read
  module _ (e : code_of (read_refusal b) ≡ 0) where
    abbrev already : Bool
    already = passes l (rate_in b) (count_in b) (start_of b) (frames_in b)

    abbrev beyond : Bool
    beyond = not (within (pos 1) (pos 32767) l)

    past-reading : loss_refusal b l ≡ first_of ((beyond gives Limit) ∷ (already gives Limit) ∷ [])
    unfolding loss_refusal
    past-reading = rw (accepted (read_refusal b) e) (two_rows beyond already)

    pub out_of_range : {f : Refusal} → first_of ((beyond gives Limit) ∷ []) ≡ Err f → loss_refusal b l ≡ Err f
    out_of_range h = past-reading ∙ row_err (beyond gives Limit) _ h

    module _ (r : first_of ((beyond gives Limit) ∷ []) ≡ Ok tt) where
      by_sound : loss_refusal b l ≡ first_of ((already gives Limit) ∷ [])
      by_sound = past-reading ∙ row_ok (beyond gives Limit) _ r

      pub passed_already : {f : Refusal} → first_of ((already gives Limit) ∷ []) ≡ Err f → loss_refusal b l ≡ Err f
      passed_already h = by_sound ∙ h

      pub searched : first_of ((already gives Limit) ∷ []) ≡ Ok tt → Ok (first_from (is_culprit l (rate_in b) (count_in b) (start_of b) (frames_in b)) 0 (length (frames_in b))) ≡ loss_answer b l
      unfolding loss_answer culprit_at
      searched h = sym (answered_ok (loss_refusal b l) _ (by_sound ∙ h))
