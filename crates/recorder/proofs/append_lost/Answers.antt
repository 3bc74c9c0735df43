use Prim.Native.Nat.{suc, ◌+◌, ◌*◌}
use mathlib.Core.Path.{◌≡◌, ◌∙◌}
use native.Mathlib.Omega.{arith}
use lib.ListN.{length}
use mir.Facts.{to_z-of_z}
use Rattle.std.specs.Prelude.{Ok}
use Rattle.le.specs.Bytes.{with_bytes}
use Rattle.record.specs.Recorded.{lost}
use Rattle.recording.specs.Frames.{described}
use Rattle.recorder.specs.Writing.{appended, append_of}
use Rattle.recorder.proofs.Laws.{left-refused, left-accepted, Room, roomy, has, no_more, room_stops, head_stops, by_head, lost_record}
use borrow.Author.Rules.{rules}
use Rattle.recorder.proofs.append_lost.Goals.{In_ok-refuse_if}
use Rattle.recorder.proofs.append_lost.Goals as goal

-- there is room
rooms : (c : In_ok-refuse_if) → Room (length c.args.bytes.now) c.args.frames
rooms c = roomy c.args.rate c.args.subframes c.args.bytes.now c.args.frames lost c.refuse_if.ensures (c.has_room.ensures ∙ no_more _) c.in_ok-refuse_if.was

pub returns-in_err-refuse_if : goal.returns-in_err-refuse_if
unfolding append_of
returns-in_err-refuse_if c =
    let a = c.args in
    left-refused _ _ (room_stops a.rate a.subframes a.bytes.now a.frames lost c.refuse_if.ensures (c.has_room.ensures ∙ no_more _) c.in_err-refuse_if.was) c.from_residual.ensures.1

pub head_rows-requires : goal.head_rows-requires
head_rows-requires c = let r = rooms (goal.at.head_rows-requires c).In_ok-refuse_if in search rules

pub returns-in_err-head_rows : goal.returns-in_err-head_rows
unfolding append_of
returns-in_err-head_rows c =
    let a = c.args in
    left-refused _ _
    (head_stops a.rate a.subframes a.bytes.now a.frames lost c.refuse_if.ensures (c.has_room.ensures ∙ no_more _) c.in_ok-refuse_if.was
    (rw (c.head_rows.ensures, to_z-of_z c.ranges.rate, to_z-of_z c.ranges.subframes)) c.in_err-head_rows.was)
    c.from_residual-in_err-head_rows.ensures.1

pub link-requires : goal.link-requires
link-requires c =
    let a = c.args in
    has a.rate a.subframes a.bytes.now a.frames lost c.refuse_if.ensures (c.has_room.ensures ∙ no_more _) c.in_ok-refuse_if.was

pub overflow_add-frames : goal.overflow_add-frames
overflow_add-frames c = let r = rooms (goal.at.overflow_add-frames c).In_ok-refuse_if in search rules

pub overflow_mul-frames : goal.overflow_mul-frames
overflow_mul-frames c = let r = rooms (goal.at.overflow_mul-frames c).In_ok-refuse_if in search rules

pub put_zeros-requires : goal.put_zeros-requires
put_zeros-requires c = let r = rooms (goal.at.put_zeros-requires c).In_ok-refuse_if in search rules

pub returns : goal.returns
unfolding append_of appended described
returns c =
    let a = c.args in
    let b = a.bytes.now in
    let n : 1024 * (a.frames + 1) ≡ 1024 * suc a.frames = omega arith in
    let w = c.put_zeros.ensures ∙ (λ i. with_bytes (c.link.ensures i) (n i) (lost_record i)) in
    (λ i. record { judged = Ok tt; bytes = w i })
    ∙ left-accepted (appended b a.frames lost) b
    (by_head a.rate a.subframes b a.frames lost c.refuse_if.ensures (c.has_room.ensures ∙ no_more _) c.in_ok-refuse_if.was
    (rw (c.head_rows.ensures, to_z-of_z c.ranges.rate, to_z-of_z c.ranges.subframes)) c.in_ok-head_rows.was)
