-- A whole frame, at the rate and the count of subframes that come with it, on what slices hold.
use Rattle.std.specs.Prelude.{ℕ, ◌≡◌, List, ℤ}
use Rattle.refusal.specs.First.{first_of}
use Rattle.refusal.specs.Refusals.{Judged, code_of}
use Rattle.decoder.specs.declared.Answer.{Answer}
use Rattle.decoder.specs.declared.Frame.{Frame}
use Rattle.judge.specs.Rows.{frame_rows}
use Rattle.decode_frame.specs.Call.{Call, frame_call}
use Rattle.decode_frame.specs.Answer.{frame_refusal, frame_answer, frame_output}
use Rattle.layout.specs.Layout.{state_in}
use Rattle.layout.specs.Frame.{frame_in, rate_in, subframes_in, control_in, rows_in, lines_in}
use Rattle.slices.specs.Slices.{Slices, state_of, control_of, with_control, Answered, leaves}

-- why a frame in slices is turned down where so many pulses and samples are lent
unfoldable pub refusal_in : (words halves frame coefs : List ℤ) → ℕ → ℕ → Judged
refusal_in words halves frame coefs pulses output =
    first_of (frame_rows (rate_in frame) (subframes_in frame) (state_in words halves) (frame_in frame) (control_in frame coefs) (lines_in coefs) pulses output)

module _ (f : Frame) (m : Slices) where
  -- the call of a frame f that brings what the slices hold beside it
  abbrev pub whole_call : Call
  whole_call =
      frame_call (rate_in m.frame) (subframes_in m.frame) f (control_of m) (rows_in m.coefs) (lines_in m.coefs) m.pulses m.output

  -- the slices with the new state, description and samples
  unfoldable pub played_on : Answer → Slices
  played_on a = with_control m a.state a.control (frame_output (state_of m) whole_call)

-- a frame f on what the slices hold beside it
unfoldable pub answered : Frame → Slices → Answered
answered f m = leaves (frame_answer (state_of m) (whole_call f m)) (played_on f m) m

-- no row refuses it
abbrev pub IsTaken : Frame → Slices → Type 0
IsTaken f m = code_of (frame_refusal (state_of m) (whole_call f m)) ≡ 0
