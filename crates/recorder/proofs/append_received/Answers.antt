use Prim.Native.Nat.{suc, ◌+◌, ◌*◌, ◌≤◌}
use mathlib.Core.Path.{◌≡◌, ◌∙◌}
use mathlib.Core.Bool.{◌&&◌, true}
use native.Mathlib.Omega.{arith}
use lib.Dec.{leb}
use lib.ListN.{length}
use mir.Facts.{to_z-of_z}
use Rattle.std.specs.Prelude.{Ok}
use Rattle.le.specs.Bytes.{with_bytes}
use Rattle.refusal.specs.First.{first_of}
use Rattle.record.specs.Recorded.{Recorded, received}
use Rattle.recording.specs.Frames.{described}
use Rattle.recorder.specs.Writing.{frame_bytes, has_room, has_pulses, head_rows, append_refusal, appended, append_of}
use Rattle.recorder.proofs.Laws.{left-refused, left-accepted, Room, roomy, has, pulses-are, are_more, enough-pulses, room_stops, head_stops, by_head}
use borrow.Author.Rules.{rules}
use Rattle.recorder.proofs.append_received.Goals.{After-refuse_if, In_ok-refuse_if, After-head_rows, After-description}
use Rattle.recorder.proofs.append_received.Goals as goal

-- the row of the room and the pulses
frame : (c : After-refuse_if) → Recorded
frame c = received c.args.q c.args.c c.args.rows c.args.lines c.args.pulses.now

row_is : (c : After-refuse_if) → (c.has_room.result && leb 320 (length c.args.pulses.now)) ≡ (has_room (length c.args.bytes.now) c.args.frames && has_pulses (frame c))
unfolding frame
row_is c = are_more c.args.q c.args.c c.args.rows c.args.lines c.args.pulses.now c.has_room.ensures

module _ (c : In_ok-refuse_if) where
  rooms : Room (length c.args.bytes.now) c.args.frames
  rooms =
      let k = (goal.at.In_ok-refuse_if c).After-refuse_if in
      roomy c.args.rate c.args.subframes c.args.bytes.now c.args.frames (frame k) c.refuse_if.ensures (row_is k) c.in_ok-refuse_if.was

  has-room : has_room (length c.args.bytes.now) c.args.frames ≡ true
  has-room =
      let k = (goal.at.In_ok-refuse_if c).After-refuse_if in
      has c.args.rate c.args.subframes c.args.bytes.now c.args.frames (frame k) c.refuse_if.ensures (row_is k) c.in_ok-refuse_if.was

  has-pulses : 320 ≤ length c.args.pulses.now
  unfolding frame
  has-pulses =
      let k = (goal.at.In_ok-refuse_if c).After-refuse_if in
      enough-pulses c.args.q c.args.c c.args.rows c.args.lines c.args.pulses.now
      (pulses-are c.args.rate c.args.subframes c.args.bytes.now c.args.frames (frame k) c.refuse_if.ensures (row_is k) c.in_ok-refuse_if.was)

head-is : (c : After-head_rows) → c.head_rows.result ≡ first_of (head_rows c.args.rate c.args.subframes c.args.bytes.now)
head-is c = rw (c.head_rows.ensures, to_z-of_z c.ranges.rate, to_z-of_z c.ranges.subframes)

-- the rows behind record 0's
judged-is : (c : After-description)
    → append_refusal c.args.rate c.args.subframes c.args.bytes.now c.args.frames (received c.args.q c.args.c c.args.rows c.args.lines c.args.pulses.now) ≡ c.description.result
unfolding frame described
judged-is c =
    let k = (goal.at.After-description c).After-refuse_if in
    by_head c.args.rate c.args.subframes c.args.bytes.now c.args.frames (frame k) c.refuse_if.ensures (row_is k) c.in_ok-refuse_if.was
    (head-is (goal.at.After-description c).After-head_rows) c.in_ok-head_rows.was
    ∙ rw (c.description.ensures, to_z-of_z c.ranges.rate, to_z-of_z c.ranges.subframes)

pub returns-in_err-refuse_if : goal.returns-in_err-refuse_if
unfolding append_of frame
returns-in_err-refuse_if c =
    let a = c.args in
    let k = (goal.at.returns-in_err-refuse_if c).After-refuse_if in
    left-refused _ _ (room_stops a.rate a.subframes a.bytes.now a.frames (frame k) c.refuse_if.ensures (row_is k) c.in_err-refuse_if.was) c.from_residual.ensures.1

pub head_rows-requires : goal.head_rows-requires
head_rows-requires c = let r = rooms (goal.at.head_rows-requires c).In_ok-refuse_if in search rules

pub returns-in_err-head_rows : goal.returns-in_err-head_rows
unfolding append_of frame
returns-in_err-head_rows c =
    let a = c.args in
    let k = (goal.at.returns-in_err-head_rows c).After-refuse_if in
    left-refused _ _
    (head_stops a.rate a.subframes a.bytes.now a.frames (frame k) c.refuse_if.ensures (row_is k) c.in_ok-refuse_if.was
    (head-is (goal.at.returns-in_err-head_rows c).After-head_rows) c.in_err-head_rows.was)
    c.from_residual-in_err-head_rows.ensures.1

pub returns-in_err-description : goal.returns-in_err-description
unfolding append_of
returns-in_err-description c =
    left-refused _ _ (judged-is (goal.at.returns-in_err-description c).After-description ∙ c.in_err-description.was) c.from_residual-in_err-description.ensures.1

pub link-requires : goal.link-requires
link-requires c = has-room (goal.at.link-requires c).In_ok-refuse_if

pub overflow_add-frames : goal.overflow_add-frames
overflow_add-frames c = let r = rooms (goal.at.overflow_add-frames c).In_ok-refuse_if in search rules

pub overflow_mul-frames : goal.overflow_mul-frames
overflow_mul-frames c = let r = rooms (goal.at.overflow_mul-frames c).In_ok-refuse_if in search rules

pub put_frame-requires : goal.put_frame-requires
put_frame-requires c =
    let k = (goal.at.put_frame-requires c).In_ok-refuse_if in
    let r = rooms k in
    let p = has-pulses k in
    search rules

pub returns : goal.returns
unfolding append_of appended
returns c =
    let a = c.args in
    let b = a.bytes.now in
    let x : Recorded = received a.q a.c a.rows a.lines a.pulses.now in
    let n : 1024 * (a.frames + 1) ≡ 1024 * suc a.frames = omega arith in
    let w = c.put_frame.ensures ∙ (λ i. with_bytes (c.link.ensures i) (n i) (frame_bytes 0 x)) in
    (λ i. record { judged = Ok tt; bytes = w i })
    ∙ left-accepted (appended b a.frames x) b (judged-is (goal.at.returns c).After-description ∙ c.in_ok-description.was)
