use Prim.Native.Nat.{◌≤◌}
use mathlib.Core.Path.{sym, ◌∙◌}
use native.Mathlib.Omega.{arith}
use lib.ListN.{length}
use mir.Syntax.{w32}
use Rattle.word.proofs.Words.{got}
use Rattle.refusal.proofs.Clear.{at_err, stays}
use Rattle.layout.specs.Frame.{FRAME, COEFS, rate_in, subframes_in}
use Rattle.record.specs.Recorded.{received}
use Rattle.recorder.specs.Writing.{append_refusal, append_of}
use Rattle.post_recording.specs.Writing.{recorded_of, lent, append_judged}
use Rattle.post_recording.proofs.Sizes.{long_numbers, too_short, enough}
use Rattle.post_recording.proofs.Ends.{written}
use Rattle.post_recording.proofs.append.Goals.{In_ok-refuse_if}
use Rattle.post_recording.proofs.append.Goals as goal

longs : (c : In_ok-refuse_if) → (FRAME ≤ length c.args.frame.now) × (COEFS ≤ length c.args.coefs.now)
longs c =
    long_numbers (length c.args.frame.now) (length c.args.coefs.now) (enough c.refuse_if.ensures c.short_numbers.ensures c.in_ok-refuse_if.was)

pub returns-in_err-refuse_if : goal.returns-in_err-refuse_if
unfolding append_judged
returns-in_err-refuse_if c =
    let a = c.args in
    let t = at_err _ _ c.from_residual.ensures.1 in
    let j = too_short c.refuse_if.ensures c.short_numbers.ensures
    (append_refusal (rate_in a.frame.now) (subframes_in a.frame.now) a.bytes.now a.frames (lent a.frame.now a.coefs.now a.pulses.now))
    c.in_err-refuse_if.was in
    (t ∙ sym j, stays _ _ t)

pub invariant_of-numbers : goal.invariant_of-numbers
invariant_of-numbers c = record { long = (longs (goal.at.invariant_of-numbers c).In_ok-refuse_if).0 }

pub control-c-requires : goal.control-c-requires
control-c-requires c = let l = (longs (goal.at.control-c-requires c).In_ok-refuse_if).1 in omega (arith, l)

pub invariant_of-coefs : goal.invariant_of-coefs
invariant_of-coefs c = record { long = (longs (goal.at.invariant_of-coefs c).In_ok-refuse_if).1 }

pub returns-in-Lost : goal.returns-in-Lost
unfolding append_judged recorded_of append_of
returns-in-Lost c =
    let a = c.args in
    let r = got w32 c.rate-rate.type_inv c.rate-rate.ensures in
    let n = got w32 c.subframes-subframes.type_inv c.subframes-subframes.ensures in
    let was = sym c.in-Lost.is ∙ c.frame.ensures in
    written _ _ c.refuse_if.ensures c.short_numbers.ensures c.in_ok-refuse_if.was
    (c.append_lost.ensures ∙ λ i. append_of (r i) (n i) a.bytes.now a.frames (recorded_of (was i) a.frame.now a.coefs.now a.pulses.now))

pub returns-in-Received : goal.returns-in-Received
unfolding append_judged recorded_of append_of
returns-in-Received c =
    let a = c.args in
    let r = got w32 c.rate-rate.type_inv c.rate-rate.ensures in
    let n = got w32 c.subframes-subframes.type_inv c.subframes-subframes.ensures in
    let was = sym c.in-Received.is ∙ c.frame.ensures in
    let k = c.control-c.ensures in
    let w = c.rows.ensures in
    let l = c.lines.ensures in
    written _ _ c.refuse_if.ensures c.short_numbers.ensures c.in_ok-refuse_if.was
    (c.append_received.ensures ∙ (λ i. append_of (r i) (n i) a.bytes.now a.frames (received c.in-Received.q (k i) (w i) (l i) a.pulses.now))
    ∙ λ i. append_of (rate_in a.frame.now) (subframes_in a.frame.now) a.bytes.now a.frames (recorded_of (was i) a.frame.now a.coefs.now a.pulses.now))
