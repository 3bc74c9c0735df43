-- Samples beyond a limit, of two lists one behind the other, and of a frame.
use mathlib.Core.Path.{◌≡◌, refl}
use mathlib.Core.Bool.{◌||◌}
use mathlib.Core.List.{List, ◌++◌}
use lib.IntN.{ℤ}
use Rattle.std.proofs.lemmas.List.Folds.{list_any-append}
use Rattle.decoder.specs.declared.SilkDecoderState.{SilkDecoderState}
use Rattle.record.specs.Recorded.{Recorded, lost, received}
use Rattle.playback.specs.Playback.{call_of, sound_of}
use Rattle.heard.specs.Loud.{is_beyond, any_beyond, heard_in, heard_of}

pub beyond-append : (l : ℤ) (xs ys : List ℤ) → any_beyond l (xs ++ ys) ≡ (any_beyond l xs || any_beyond l ys)
unfolding any_beyond
beyond-append l xs ys = list_any-append (is_beyond l) xs ys

-- a frame's call has the shape that it is given
pub heard-shape : (l : ℤ) (s : SilkDecoderState) (khz nb : ℤ) (x : Recorded)
    → heard_in l khz nb (sound_of s (call_of khz nb x)) ≡ heard_of l s (call_of khz nb x)
unfolding heard_of call_of
heard-shape l s khz nb lost = refl
heard-shape l s khz nb (received q c rows lines pulses) = refl
