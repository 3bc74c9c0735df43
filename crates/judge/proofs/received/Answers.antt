use mir.Facts.{to_z-of_z}
use Rattle.refusal.proofs.Clear.{run_stops, run_passes}
use Rattle.shape.specs.Shape.{shape}
use Rattle.decoder.specs.Rows.{coming_rows}
use Rattle.judge.specs.Rows.{description_rows}
use Rattle.judge.proofs.received.Goals as goal

pub returns-in_err-description : goal.returns-in_err-description
returns-in_err-description c =
    let a = c.args in
    run_passes (coming_rows a.khz a.nb_subfr a.s.now) _ (rw (c.coming_rows.ensures, to_z-of_z c.ranges.khz, to_z-of_z c.ranges.nb_subfr)) c.in_ok-coming_rows.was
    (run_stops (description_rows (shape a.khz a.nb_subfr) a.q a.c.now a.lines.now) _ (rw (c.description.ensures, to_z-of_z c.ranges.khz, to_z-of_z c.ranges.nb_subfr)) c.in_err-description.was c.from_residual-in_err-description.ensures.1)

pub returns : goal.returns
returns c =
    let a = c.args in
    run_passes (coming_rows a.khz a.nb_subfr a.s.now) _ (rw (c.coming_rows.ensures, to_z-of_z c.ranges.khz, to_z-of_z c.ranges.nb_subfr)) c.in_ok-coming_rows.was
    (run_passes (description_rows (shape a.khz a.nb_subfr) a.q a.c.now a.lines.now) _ (rw (c.description.ensures, to_z-of_z c.ranges.khz, to_z-of_z c.ranges.nb_subfr)) c.in_ok-description.was
    (rw (c.room_rows.ensures, to_z-of_z c.ranges.khz, to_z-of_z c.ranges.nb_subfr)))
