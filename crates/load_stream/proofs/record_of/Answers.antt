use mathlib.Core.Path.{sym, ap, ◌∙◌}
use mathlib.Core.Bool.{Bool, cond}
use mir.Facts.{to_z-of_z}
use Rattle.record.specs.Recorded.{lost, record_bytes}
use Rattle.load.specs.Load.{is_received}
use Rattle.load_stream.specs.Stream.{received_of, record_of}
use Rattle.load_stream.proofs.record_of.Goals as goal

pub returns-then-is_received : goal.returns-then-is_received
unfolding record_of
returns-then-is_received c =
    let x = to_z-of_z c.ranges.x in
    let r = to_z-of_z c.ranges.rate in
    let e = sym c.if-is_received.true ∙ c.is_received.ensures ∙ λ i. is_received (x i) in
    c.received_of.ensures ∙ (λ i. record_bytes (received_of (r i) (x i))) ∙ ap (λ (b : Bool). record_bytes (cond b (received_of c.args.rate c.args.x) lost)) e

pub returns : goal.returns
unfolding record_of record_bytes
returns c =
    let x = to_z-of_z c.ranges.x in
    let e = sym c.if-is_received.false ∙ c.is_received.ensures ∙ λ i. is_received (x i) in
    ap (λ (b : Bool). record_bytes (cond b (received_of c.args.rate c.args.x) lost)) e
