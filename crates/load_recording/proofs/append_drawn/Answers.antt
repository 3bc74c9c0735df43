use mathlib.Core.Path.{sym, ap, ◌∙◌}
use mathlib.Core.Bool.{Bool, cond}
use mir.Facts.{to_z-of_z}
use Rattle.shape.specs.Shape.{rate_of}
use Rattle.load.specs.Load.{is_received, params_of, control_of, rows_of, lines_of, pulses_of}
use Rattle.record.specs.Recorded.{lost, received}
use Rattle.recorder.specs.Writing.{append_of}
use Rattle.load_recording.specs.Frames.{recorded_of}
use Rattle.load_recording.proofs.append_drawn.Goals as goal

pub returns-then-not-is_received : goal.returns-then-not-is_received
unfolding recorded_of
returns-then-not-is_received c =
    let a = c.args in
    let x = to_z-of_z c.ranges.x in
    let r = to_z-of_z c.ranges.rate in
    let n = to_z-of_z c.ranges.subframes in
    let e = sym c.if-not-is_received.true ∙ c.is_received.ensures ∙ λ i. is_received (x i) in
    let f = received (params_of a.x) (control_of a.x (rate_of a.rate)) (rows_of a.x) (lines_of a.x) (pulses_of a.x) in
    c.append_lost.ensures ∙ (λ i. append_of (r i) (n i) a.bytes.now a.frames lost)
    ∙ ap (λ (b : Bool). append_of a.rate a.subframes a.bytes.now a.frames (cond b f lost)) e

pub returns : goal.returns
unfolding recorded_of
returns c =
    let a = c.args in
    let x = to_z-of_z c.ranges.x in
    let r = to_z-of_z c.ranges.rate in
    let n = to_z-of_z c.ranges.subframes in
    let e = sym c.if-not-is_received.false ∙ c.is_received.ensures ∙ λ i. is_received (x i) in
    let f = received (params_of a.x) (control_of a.x (rate_of a.rate)) (rows_of a.x) (lines_of a.x) (pulses_of a.x) in
    let eq = c.params_of-q.ensures ∙ λ i. params_of (x i) in
    let ec = c.control_of-c.ensures ∙ λ i. control_of (x i) (rate_of (r i)) in
    let eo = c.rows_of-rows.ensures ∙ λ i. rows_of (x i) in
    let el = c.lines_of-lines.ensures ∙ λ i. lines_of (x i) in
    let ep = c.pulses_of-pulses.ensures ∙ λ i. pulses_of (x i) in
    c.append_received.ensures
    ∙ (λ i. append_of (r i) (n i) a.bytes.now a.frames (received (eq i) (ec i) (eo i) (el i) (ep i)))
    ∙ ap (λ (b : Bool). append_of a.rate a.subframes a.bytes.now a.frames (cond b f lost)) e
