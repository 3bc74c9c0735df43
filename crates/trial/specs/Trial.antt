-- Document 02, Note 13: the trial's answer.
use Rattle.std.specs.Prelude.{ℕ, not, List, [], ◌∷◌, map, ltb, ℤ, Result}
use Rattle.refusal.specs.First.{◌gives◌, first_of}
use Rattle.refusal.specs.Refusals.{Judged, answered}
use Rattle.refusal.specs.declared.Refusal.{Refusal}
use Rattle.refusal.specs.declared.Refusal.TheVariants.{Rate, Size, Length, Squelch}
use Rattle.shape.specs.Shape.{is_rate, is_count}
use Rattle.decoder.specs.Settings.{is_squelch}
use Rattle.listener.specs.declared.Link.{Link}
use Rattle.listener.specs.declared.Counts.{Counts}
use Rattle.listener.specs.Heard.{each}
use Rattle.trial.specs.Calls.{heard_of}

-- 1 and 2 where the load's shape is none, 12 for more frames than a post can count losses, 14 for a squelch out of range
unfoldable pub trial_refusal : ℤ → ℤ → ℤ → ℕ → Judged
trial_refusal khz nb q n =
    first_of ((not (is_rate khz) gives Rate) ∷ (not (is_count nb) gives Size) ∷ (ltb 2147483647 n gives Length) ∷ (not (is_squelch q) gives Squelch) ∷ [])

-- a load, a squelch, a count of frames, a link, and the listeners' seeds: for each listener, counts
unfoldable pub trial_of : ℤ → ℤ → ℤ → ℤ → ℕ → Link → List ℤ → Result (List Counts) Refusal
trial_of khz nb seed q n k seeds =
    answered (trial_refusal khz nb q n) (map (λ x. each (λ h. heard_of khz nb seed q k n h x)) seeds)
