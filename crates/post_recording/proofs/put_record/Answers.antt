use mathlib.Core.Path.{sym, ap, ◌∙◌}
use mathlib.Core.Bool.{true}
use mathlib.Core.List.{◌∷◌}
use lib.IntN.{pos}
use lib.ListN.{replicate}
use mir.Facts.{to_z-of_z}
use Rattle.sigproc.specs.Place.{put_at}
use Rattle.numbers.specs.Numbers.{frame_numbers, coef_numbers}
use Rattle.record.specs.Recorded.{recorded_in}
use Rattle.post_recording.specs.Reading.{frame_of, coefs_of, pulses_of}
use Rattle.post_recording.proofs.put_record.Goals as goal

pub returns-then-not-is_received : goal.returns-then-not-is_received
unfolding recorded_in frame_of coefs_of pulses_of
returns-then-not-is_received c =
    let a = c.args in
    let r = to_z-of_z c.ranges.rate in
    let n = to_z-of_z c.ranges.subframes in
    rw (sym c.is_received.ensures ∙ c.if-not-is_received.true) (
      c.copy_at.ensures ∙ (λ i. put_at a.frame.now 0 (pos 0 ∷ r i ∷ n i ∷ replicate 13 (pos 0))),
      c.copy_at-then-not-is_received.ensures,
      c.copy_at-then-not-is_received-2.ensures,
    )

pub returns : goal.returns
unfolding recorded_in frame_of coefs_of pulses_of
returns c =
    let a = c.args in
    let r = to_z-of_z c.ranges.rate in
    let n = to_z-of_z c.ranges.subframes in
    let q = c.params.ensures in
    let k = c.control-c.ensures in
    let w = c.rows.ensures in
    let l = c.lines.ensures in
    rw (sym c.is_received.ensures ∙ c.if-not-is_received.false) (
      c.put_frame.ensures ∙ (λ i. put_at a.frame.now 0 (frame_numbers true (r i) (n i) (q i) (k i))),
      c.put_coefs.ensures ∙ (λ i. put_at a.coefs.now 0 (coef_numbers (k i) (w i) (l i))),
      c.copy_at-2.ensures ∙ ap (put_at a.pulses.now 0) c.pulses.ensures,
    )
