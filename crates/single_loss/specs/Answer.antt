-- Document 02, Note 14: the answer for a recording and a limit.
use Rattle.std.specs.Prelude.{ℕ, Bool, not, ◌||◌, List, [], ◌∷◌, Option, Result, ℤ, pos, length}
use Rattle.refusal.specs.First.{◌gives◌, first_of}
use Rattle.refusal.specs.Refusals.{Judged, if_accepted, answered}
use Rattle.refusal.specs.declared.Refusal.{Refusal}
use Rattle.refusal.specs.declared.Refusal.TheVariants.{Limit}
use Rattle.decoder.specs.Ranges.{within}
use Rattle.recording.specs.Frames.{rate_in, count_in, frames_in}
use Rattle.recording.specs.Reading.{read_refusal}
use Rattle.playback.specs.Playback.{start_of}
use Rattle.culprit.specs.Search.{passes, is_culprit, first_from}

module _ (b : List ℕ) where
  -- what reading refuses, and last 23: L is not 1 to 32,767, or the call as recorded already passes it
  unfoldable pub loss_refusal : ℤ → Judged
  loss_refusal limit =
      if_accepted (read_refusal b)
      (first_of (((not (within (pos 1) (pos 32767) limit) || passes limit (rate_in b) (count_in b) (start_of b) (frames_in b)) gives Limit) ∷ []))
      (read_refusal b)

  -- the frame at place k brings a sample beyond L by its loss alone
  unfoldable pub culprit_at : ℤ → ℕ → Bool
  culprit_at limit k = is_culprit limit (rate_in b) (count_in b) (start_of b) (frames_in b) k

  unfoldable pub loss_answer : ℤ → Result (Option ℕ) Refusal
  loss_answer limit = answered (loss_refusal limit) (first_from (culprit_at limit) 0 (length (frames_in b)))
