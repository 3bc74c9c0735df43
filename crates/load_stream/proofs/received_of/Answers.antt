use mathlib.Core.Path.{◌∙◌}
use native.Mathlib.Omega.{arith}
use lib.ListN.{replicate}
use mir.Facts.{to_z-of_z}
use Rattle.shape.specs.Shape.{rate_of}
use Rattle.le.specs.Bytes.{with_bytes}
use Rattle.le.proofs.Places.{with-whole}
use Rattle.record.specs.Recorded.{received, record_bytes}
use Rattle.record.proofs.Parts.{length_record}
use Rattle.load.specs.Load.{params_of, control_of, rows_of, lines_of, pulses_of}
use Rattle.load_stream.specs.Stream.{received_of}
use Rattle.load_stream.proofs.received_of.Goals as goal

pub returns : goal.returns
unfolding received_of
returns c =
    let x = to_z-of_z c.ranges.x in
    let r = to_z-of_z c.ranges.rate in
    let eq = c.params_of.ensures ∙ λ i. params_of (x i) in
    let en = c.control_of-c.ensures ∙ λ i. control_of (x i) (rate_of (r i)) in
    let eo = c.rows_of-rows.ensures ∙ λ i. rows_of (x i) in
    let el = c.lines_of-lines.ensures ∙ λ i. lines_of (x i) in
    let ep = c.pulses_of-pulses.ensures ∙ λ i. pulses_of (x i) in
    let f = received_of c.args.rate c.args.x in
    c.put_received.ensures
    ∙ (λ i. with_bytes (replicate 817 0) 0 (record_bytes (received (eq i) (en i) (eo i) (el i) (ep i))))
    ∙ with-whole (replicate 817 0) (record_bytes f) (omega (arith, length_record f))
