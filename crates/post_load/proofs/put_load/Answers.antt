use mathlib.Core.Path.{◌∙◌}
use mir.Facts.{to_z-of_z}
use Rattle.sigproc.specs.Place.{put_at}
use Rattle.shape.specs.Shape.{rate_of}
use Rattle.numbers.specs.Numbers.{frame_numbers, coef_numbers}
use Rattle.load.specs.Load.{is_received, params_of, control_of, rows_of, lines_of, pulses_of}
use Rattle.post_load.specs.Calls.{framed, coefficiented, pulsed}
use Rattle.post_load.proofs.put_load.Goals as goal

pub returns : goal.returns
unfolding framed coefficiented pulsed
returns c =
    let a = c.args in
    let x = to_z-of_z c.ranges.x in
    let r = to_z-of_z c.ranges.rate in
    let m = to_z-of_z c.ranges.subframes in
    let eq = c.params_of-q.ensures ∙ λ i. params_of (x i) in
    let en = c.control_of-c.ensures ∙ λ i. control_of (x i) (rate_of (r i)) in
    let eo = c.rows_of-rows.ensures ∙ λ i. rows_of (x i) in
    let el = c.lines_of-lines.ensures ∙ λ i. lines_of (x i) in
    let ep = c.pulses_of-p.ensures ∙ λ i. pulses_of (x i) in
    let ew = c.is_received.ensures ∙ λ i. is_received (x i) in (
      c.put_frame.ensures ∙ (λ i. put_at a.frame.now 0 (frame_numbers (ew i) (r i) (m i) (eq i) (en i))),
      c.put_coefs.ensures ∙ (λ i. put_at a.coefs.now 0 (coef_numbers (en i) (eo i) (el i))),
      c.copy_at.ensures ∙ (λ i. put_at a.pulses.now 0 (ep i)),
    )
