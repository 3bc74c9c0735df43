-- Document 02, Note 13: "the three add up to the frames sent".
use Rattle.std.specs.Prelude.{ℕ, ◌+◌, ◌<◌, ◌≡◌, Ok, List, ℤ, length, get_or}
use Rattle.edition.specs.Edition.{newer}
use Rattle.decoder.specs.SetUp.{set_up_with}
use Rattle.decoder.specs.declared.SilkDecoderState.{SilkDecoderState}
use Rattle.lists.specs.Lists.{places}
use Rattle.lists.specs.Claims.{Every, Played}
use Rattle.listener.specs.declared.Link.{Link}
use Rattle.listener.specs.declared.Counts.{Counts}
use Rattle.listener.specs.Heard.{each}
use Rattle.trial.specs.Calls.{followed_by}
use Rattle.trial.specs.Trial.{trial_refusal, trial_of}

-- in every trial that is not refused, the three counts of each listener add up to its frames
abbrev pub AddsUp : Type 0
AddsUp =
    (khz nb seed q : ℤ) (n : ℕ) (k : Link) (seeds : List ℤ) (counts : List Counts) (i : ℕ) → trial_of khz nb seed q n k seeds ≡ Ok counts → i < length seeds
    → let c = get_or counts i (each (λ h. 0)) in c.received + c.concealed + c.squelched ≡ n

-- and every frame that it sends is played
abbrev pub AllPlayed : Type 0
AllPlayed =
    (khz nb seed q : ℤ) (n : ℕ) (k : Link) (listener : ℤ) → trial_refusal khz nb q n ≡ Ok tt
    → (s : SilkDecoderState) × (set_up_with khz nb (record { squelch = q; edition = newer }) ≡ Ok s)
    × Every Played (places s (followed_by khz nb seed q k n listener))
