use Prim.Native.Nat.{◌+◌, ◌-◌, ◌*◌, ◌≤◌}
use mathlib.Core.Path.{◌≡◌, sym, ap, ◌∙◌}
use native.Mathlib.Omega.{arith}
use lib.ListN.{get_or, drop}
use Rattle.std.specs.Prelude.{Ok}
use Rattle.refusal.proofs.Clear.{at_err, stays}
use Rattle.sigproc.specs.Place.{put_at}
use Rattle.record.specs.Recorded.{recorded_in}
use Rattle.recording.specs.Frames.{recorded_at}
use Rattle.recording.specs.Reading.{read_of}
use Rattle.recording.proofs.Accepted.{not_read, frames_count}
use Rattle.playback.proofs.Read.{rate-back, count-back}
use Rattle.post_recording.specs.Reading.{frame_of, coefs_of, pulses_of, number_refusal, frame_judged}
use Rattle.post_recording.proofs.Sizes.{too_short, enough, by_content}
use Rattle.post_recording.proofs.Told.{read_is, by_number, not_read_either, frame_is, counted}
use Rattle.post_recording.proofs.frame_into.Goals.{In_ok-r, In_ok-refuse_if-2}
use Rattle.post_recording.proofs.frame_into.Goals as goal

-- the recording is read
is : (c : In_ok-r) → read_of c.args.bytes.now ≡ Ok c.in_ok-r.r
is c = sym c.read.ensures ∙ c.in_ok-r.was

-- the number is one of a frame
number : (c : In_ok-refuse_if-2) → (1 ≤ c.args.number) × (c.args.number ≤ c.in_ok-r.r.frames)
number c = counted c.args.number c.in_ok-r.r.frames c.refuse_if-2.ensures c.in_ok-refuse_if-2.was

pub returns-in_err-refuse_if : goal.returns-in_err-refuse_if
unfolding frame_judged
returns-in_err-refuse_if c =
    let a = c.args in
    let t = at_err _ _ c.from_residual.ensures.1 in
    let j = too_short c.refuse_if.ensures c.short_with_pulses.ensures (number_refusal a.bytes.now a.number) c.in_err-refuse_if.was in
    (t ∙ sym j, stays _ _ t, stays _ _ t, stays _ _ t)

pub returns-in_err-r : goal.returns-in_err-r
unfolding frame_judged
returns-in_err-r c =
    let a = c.args in
    let b = a.bytes.now in
    let t = at_err _ _ c.from_residual-in_err-r.ensures.1 in
    let j = by_content c.refuse_if.ensures c.short_with_pulses.ensures (number_refusal b a.number) c.in_ok-refuse_if.was
    ∙ not_read_either b a.number (not_read b (sym c.read.ensures ∙ c.in_err-r.was)) in
    (t ∙ sym j, stays _ _ t, stays _ _ t, stays _ _ t)

pub returns-in_err-refuse_if-2 : goal.returns-in_err-refuse_if-2
unfolding frame_judged
returns-in_err-refuse_if-2 c =
    let a = c.args in
    let b = a.bytes.now in
    let e = is (goal.at.returns-in_err-refuse_if-2 c).In_ok-r in
    let t = at_err _ _ c.from_residual-in_err-refuse_if-2.ensures.1 in
    let j = by_content c.refuse_if.ensures c.short_with_pulses.ensures (number_refusal b a.number) c.in_ok-refuse_if.was
    ∙ sym (by_number b a.number c.refuse_if-2.ensures (read_is b c.in_ok-r.r e) (frames_count b c.in_ok-r.r e))
    ∙ c.in_err-refuse_if-2.was in
    (t ∙ sym j, stays _ _ t, stays _ _ t, stays _ _ t)

pub overflow_sub-number : goal.overflow_sub-number
overflow_sub-number c = (number (goal.at.overflow_sub-number c).In_ok-refuse_if-2).0

pub bounds-frames-number : goal.bounds-frames-number
bounds-frames-number c =
    let n = number (goal.at.bounds-frames-number c).In_ok-refuse_if-2 in
    omega (arith, n.0, n.1, c.frames_in-frames.ensures.2)

pub put_record-requires : goal.put_record-requires
put_record-requires c = enough c.refuse_if.ensures c.short_with_pulses.ensures c.in_ok-refuse_if.was

pub returns : goal.returns
unfolding frame_judged recorded_at
returns c =
    let a = c.args in
    let b = a.bytes.now in
    let r = c.in_ok-r.r in
    let p = goal.at.returns c in
    let e = is p.In_ok-r in
    let n = number p.In_ok-refuse_if-2 in
    let f = c.frames_in-frames in
    let ks = f.result.records.now in
    let k = get_or ks (a.number - 1) 0 in
    let same = ap (λ d. recorded_in (drop (1024 * k + 2) d)) f.ensures.0 in
    let x = ap recorded_in c.record-record.ensures ∙ same ∙ frame_is b a.number ks f.ensures.1 (omega (arith, n.0, n.1, f.ensures.2)) in
    let khz = rate-back b r e in
    let nb = count-back b r e in
    let j = by_content c.refuse_if.ensures c.short_with_pulses.ensures (number_refusal b a.number) c.in_ok-refuse_if.was
    ∙ sym (by_number b a.number c.refuse_if-2.ensures (read_is b r e) (frames_count b r e))
    ∙ c.in_ok-refuse_if-2.was in (
      sym j,
      c.put_record.ensures.0 ∙ (λ i. put_at a.frame.now 0 (frame_of (khz i) (nb i) (x i))),
      c.put_record.ensures.1 ∙ (λ i. put_at a.coefs.now 0 (coefs_of (x i))),
      c.put_record.ensures.2 ∙ (λ i. put_at a.pulses.now 0 (pulses_of (x i))),
    )
