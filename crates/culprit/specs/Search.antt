-- Document 02, Note 14: the smallest frame number whose loss alone brings a played sample beyond a limit L in size.
use Rattle.std.specs.Prelude.{ℕ, zero, suc, Bool, true, false, cond, ◌&&◌, List, [], ◌∷◌, Option, Some, None, ℤ, get_or}
use Rattle.decoder.specs.declared.SilkDecoderState.{SilkDecoderState}
use Rattle.record.specs.Recorded.{Recorded, lost, received}
use Rattle.playback.specs.Playback.{samples_from}
use Rattle.heard.specs.Loud.{any_beyond}

-- the frames, with that at place k lost and all else as recorded
unfoldable pub losing : List Recorded → ℕ → List Recorded
losing [] k = []
losing (x ∷ xs) zero = lost ∷ xs
losing (x ∷ xs) (suc k) = x ∷ losing xs k

unfoldable pub was_received : Recorded → Bool
was_received lost = false
was_received (received q c rows lines pulses) = true

-- some sample of frames that are played from a state on is beyond L in size
unfoldable pub passes : ℤ → ℤ → ℤ → SilkDecoderState → List Recorded → Bool
passes limit khz nb s xs = any_beyond limit (samples_from khz nb s xs)

-- the frame at place k was received, and its loss alone brings such a sample
unfoldable pub is_culprit : ℤ → ℤ → ℤ → SilkDecoderState → List Recorded → ℕ → Bool
is_culprit limit khz nb s xs k = was_received (get_or xs k lost) && passes limit khz nb s (losing xs k)

-- the first of n places from k on, as a frame number counted from 1
unfoldable pub first_from : (ℕ → Bool) → ℕ → ℕ → Option ℕ
first_from f k zero = None
first_from f k (suc n) = cond (f k) (Some (suc k)) (first_from f (suc k) n)
