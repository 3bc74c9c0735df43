use mir.Facts.{to_z-of_z}
use Rattle.judge.proofs.frame.Goals as goal

pub returns : goal.returns
returns c =
    let f = c.ranges in
    rw (c.received.ensures, c.in-Received.is, to_z-of_z f.khz, to_z-of_z f.nb_subfr)
