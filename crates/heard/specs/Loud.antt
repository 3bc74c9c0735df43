-- Document 02, Note 14: a sample beyond a limit in size.
use Rattle.std.specs.Prelude.{Bool, List, ℤ, pos, nat_abs, take}
use Rattle.std.specs.Int.Signed.{lt_z}
use Rattle.std.specs.List.{list_any}
use Rattle.shape.specs.Shape.{shape, frame_length}
use Rattle.decoder.specs.declared.SilkDecoderState.{SilkDecoderState}
use Rattle.decode_frame.specs.Call.{Call, shape_at}
use Rattle.playback.specs.Playback.{sound_of}
use Rattle.record.specs.declared.Sound.{Sound}
use Rattle.heard.specs.declared.Heard.{Heard}

-- a sample is beyond a limit in size
unfoldable pub is_beyond : ℤ → ℤ → Bool
is_beyond limit x = lt_z limit (pos (nat_abs x))

-- and so is some of a list
unfoldable pub any_beyond : ℤ → List ℤ → Bool
any_beyond limit xs = list_any (is_beyond limit) xs

-- inner: a frame's state, and whether a sample that it plays at a shape is beyond a limit
abbrev pub heard_in : ℤ → ℤ → ℤ → Sound → Heard
heard_in limit khz nb t =
    record { state = t.state; loud = any_beyond limit (take (frame_length (shape khz nb)) t.samples) }

-- a call's new state, and whether it plays a sample beyond a limit
unfoldable pub heard_of : ℤ → SilkDecoderState → Call → Heard
heard_of limit s x =
    let t = sound_of s x in
    record { state = t.state; loud = any_beyond limit (take (frame_length (shape_at x)) t.samples) }
