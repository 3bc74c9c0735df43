use native.Mathlib.Omega.{arith}
use mir.Facts.{to_z-of_z}
use Rattle.recording.proofs.Rows.{row_stops, row_passes, rows_pass}
use Rattle.recording.proofs.content.Goals as goal

pub is_head-requires : goal.is_head-requires
is_head-requires c = let h = c.args.frames.now.inside 0 in omega (arith, h)

pub returns-in_err-refuse_if : goal.returns-in_err-refuse_if
returns-in_err-refuse_if c = row_stops _ _ _ c.refuse_if.ensures (rw (c.is_head.ensures, c.are_frames.ensures)) c.in_err-refuse_if.was c.from_residual.ensures.1

pub returns-in_err-refuse_if-2 : goal.returns-in_err-refuse_if-2
returns-in_err-refuse_if-2 c =
    row_passes _ _ _ c.refuse_if.ensures (rw (c.is_head.ensures, c.are_frames.ensures)) c.in_ok-refuse_if.was
    (row_stops _ _ _ c.refuse_if-2.ensures (rw (c.is_rate.ensures, to_z-of_z c.ranges.rate)) c.in_err-refuse_if-2.was c.from_residual-in_err-refuse_if-2.ensures.1)

pub returns-in_err-refuse_if-3 : goal.returns-in_err-refuse_if-3
returns-in_err-refuse_if-3 c =
    row_passes _ _ _ c.refuse_if.ensures (rw (c.is_head.ensures, c.are_frames.ensures)) c.in_ok-refuse_if.was
    (row_passes _ _ _ c.refuse_if-2.ensures (rw (c.is_rate.ensures, to_z-of_z c.ranges.rate)) c.in_ok-refuse_if-2.was
    (row_stops _ _ _ c.refuse_if-3.ensures (rw (c.is_count.ensures, to_z-of_z c.ranges.subframes)) c.in_err-refuse_if-3.was c.from_residual-in_err-refuse_if-3.ensures.1))

pub returns : goal.returns
returns c =
    row_passes _ _ _ c.refuse_if.ensures (rw (c.is_head.ensures, c.are_frames.ensures)) c.in_ok-refuse_if.was
    (row_passes _ _ _ c.refuse_if-2.ensures (rw (c.is_rate.ensures, to_z-of_z c.ranges.rate)) c.in_ok-refuse_if-2.was
    (row_passes _ _ _ c.refuse_if-3.ensures (rw (c.is_count.ensures, to_z-of_z c.ranges.subframes)) c.in_ok-refuse_if-3.was
    (rows_pass _ (rw (c.described_all.ensures, to_z-of_z c.ranges.rate, to_z-of_z c.ranges.subframes)))))
