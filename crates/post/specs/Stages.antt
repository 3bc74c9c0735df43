-- The exported functions: set-up, the whole frame and the stages, on what the slices hold.
use Rattle.std.specs.Prelude.{ℕ, Bool, ℤ, length}
use Rattle.decoder.specs.declared.Settings.{Settings}
use Rattle.layout.specs.Layout.{short_state}
use Rattle.layout.specs.Frame.{short_frame, short_call, frame_in}
use Rattle.slices.specs.Slices.{Slices}
use Rattle.slices.specs.Whole.{answered}
use Rattle.stages.specs.Stages.{set_up_on, core_on, plc_received_on, plc_lost_on, glue_on, noise_on}
use Rattle.post.specs.Calls.{Called, called}

-- a slice is too short: one of a state's, of a state's and a frame's, or of these and the coefficients
module _ (m : Slices) where
  abbrev pub state_short : Bool
  state_short = short_state (length m.words) (length m.halves)

  abbrev pub frame_short : Bool
  frame_short = short_frame (length m.words) (length m.halves) (length m.frame)

  abbrev pub call_short : Bool
  call_short = short_call (length m.words) (length m.halves) (length m.frame) (length m.coefs)

-- a state for a rate, a count of subframes and settings
unfoldable pub set_up_call : ℤ → ℤ → Settings → Slices → Called
set_up_call rate subframes v m = called (state_short m) (set_up_on rate subframes v m) m

-- the frame in the slices, received or lost
unfoldable pub frame_call : Slices → Called
frame_call m = called (call_short m) (answered (frame_in m.frame) m) m

-- the synthesis of a received frame
unfoldable pub core_call : Slices → Called
core_call m = called (call_short m) (core_on m) m

-- what concealment keeps of a received frame
unfoldable pub plc_received_call : Slices → Called
plc_received_call m = called (call_short m) (plc_received_on m) m

-- the concealment of a lost frame
unfoldable pub plc_lost_call : Slices → Called
plc_lost_call m = called (frame_short m) (plc_lost_on m) m

-- gluing of the first n samples
unfoldable pub glue_call : ℕ → Slices → Called
glue_call n m = called (state_short m) (glue_on n m) m

-- comfort noise on the first n samples
unfoldable pub noise_call : ℕ → Slices → Called
noise_call n m = called (frame_short m) (noise_on n m) m
