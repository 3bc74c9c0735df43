use Prim.Native.Nat.{ℕ, ◌+◌}
use mathlib.Core.Path.{sym, ap, ◌∙◌}
use mathlib.Core.List.{List}
use native.Mathlib.Omega.{arith}
use lib.ListN.{take, replicate}
use lib.Seq.{length-take-le}
use Rattle.le.specs.Bytes.{with_bytes}
use Rattle.record.specs.Recorded.{received, record_bytes}
use Rattle.recorder.proofs.Laws.{first_pulses, put_record}
use borrow.Author.Rules.{rules}
use Rattle.recorder.proofs.put_frame.Goals as goal

pub slice_bounds-put_received-end : goal.slice_bounds-put_received-end
slice_bounds-put_received-end c = sym (length-take-le 320 c.args.pulses.now c.requires.1)

pub put_received-requires : goal.put_received-requires
put_received-requires c = (search rules, length-take-le 320 c.args.pulses.now c.requires.1)

pub returns : goal.returns
returns c =
    let a = c.args in
    let at = a.at in
    let rows = a.rows in
    c.put_zeros-2.ensures
    ∙ ap (λ (e : List ℕ). with_bytes e (at + 819) (replicate 205 0))
    (c.put_received.ensures
    ∙ ap (λ (e : List ℕ). with_bytes e (at + 2) (record_bytes (received a.q a.c rows a.lines (take 320 a.pulses.now)))) c.put_zeros.ensures
    ∙ ap (with_bytes (with_bytes a.bytes.now at (replicate 2 0)) (at + 2)) (first_pulses a.q a.c rows a.lines a.pulses.now))
    ∙ put_record a.bytes.now at (received a.q a.c rows a.lines a.pulses.now) (omega (arith, c.requires.0))
