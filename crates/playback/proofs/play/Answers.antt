use Prim.Native.Nat.{◌-◌, ◌*◌}
use mathlib.Core.Path.{◌≡◌, refl, sym, ap, ◌∙◌}
use mathlib.Core.List.{◌++◌, map}
use native.Mathlib.Omega.{arith}
use lib.ListN.{length, drop}
use Rattle.std.specs.Prelude.{Ok}
use Rattle.refusal.proofs.Clear.{at_err, accepted}
use Rattle.chain.specs.Chain.{records_in}
use Rattle.recording.specs.Reading.{read_refusal, read_of}
use Rattle.recording.proofs.Answers.{on_chain_lem}
use Rattle.playback.specs.Playback.{samples_from, received_in, played_samples}
use Rattle.recording.specs.Frames.{recorded_at}
use Rattle.recording.proofs.Accepted.{not_read, read-well, rows, frames_are, few, frames_count}
use Rattle.playback.proofs.Read.{rate-back, count-back, started, starts}
use Rattle.playback.proofs.Answers.{too_short, has_room, by_reading, play_refused, play_accepted}
use Rattle.playback.proofs.play.Goals.{After-refuse_if, In_ok-r}
use Rattle.playback.proofs.play.Goals as goal

module _ (c : After-refuse_if) where
  most_is : 320 * c.saturating_sub-most.result ≡ 320 * (records_in c.args.bytes.now - 1)
  unfolding records_in
  most_is = rw c.saturating_sub-most.ensures refl

-- the recording is read
is : (c : In_ok-r) → read_of c.args.bytes.now ≡ Ok c.in_ok-r.r
is c = sym c.read.ensures ∙ c.in_ok-r.was

pub returns-in_err-refuse_if : goal.returns-in_err-refuse_if
returns-in_err-refuse_if c =
    play_refused c.args.bytes.now c.args.output.now (too_short c.args.bytes.now c.args.output.now c.refuse_if.ensures (most_is (goal.at.returns-in_err-refuse_if c).After-refuse_if) c.in_err-refuse_if.was)
    (at_err _ _ c.from_residual.ensures.1)

pub returns-in_err-r : goal.returns-in_err-r
returns-in_err-r c =
    let b = c.args.bytes.now in
    play_refused b c.args.output.now (by_reading b c.args.output.now c.refuse_if.ensures (most_is (goal.at.returns-in_err-r c).After-refuse_if) c.in_ok-refuse_if.was ∙ not_read b (sym c.read.ensures ∙ c.in_err-r.was))
    (at_err _ _ c.from_residual-in_err-r.ensures.1)

pub returns-in_err-s : goal.returns-in_err-s
returns-in_err-s c =
    absurd (starts c.args.bytes.now c.in_ok-r.r (is (goal.at.returns-in_err-s c).In_ok-r) (sym c.set_up_for.ensures ∙ c.in_err-s.was))

pub frames_in-frames-requires : goal.frames_in-frames-requires
frames_in-frames-requires c = is (goal.at.frames_in-frames-requires c).In_ok-r

pub play_frames-samples-requires : goal.play_frames-samples-requires
play_frames-samples-requires c =
    let b = c.args.bytes.now in
    let p = goal.at.play_frames-samples-requires c in
    let e = is p.In_ok-r in
    let room = has_room b c.args.output.now c.refuse_if.ensures (most_is p.After-refuse_if) c.in_ok-refuse_if.was in
    omega (arith, c.frames_in-frames.ensures.2, frames_are b c.in_ok-r.r e, room, (on_chain_lem b (rows b c.in_ok-r.r e).whole).few)

pub overflow_sub-result : goal.overflow_sub-result
overflow_sub-result c =
    let m = c.frames_in-frames.ensures.2 in
    let h = c.received_in-received.ensures.1 in
    omega (arith, m, h)

pub returns : goal.returns
unfolding played_samples
returns c =
    let b = c.args.bytes.now in
    let e = is (goal.at.returns c).In_ok-r in
    let r = rate-back b c.in_ok-r.r e in
    let n = count-back b c.in_ok-r.r e in
    let xs = ap (λ d. map (recorded_at d) c.frames_in-frames.result.records.now) c.frames_in-frames.ensures.0 ∙ c.frames_in-frames.ensures.1 in
    let s = started b c.in_ok-r.r e c.in_ok-s.s (sym c.set_up_for.ensures ∙ c.in_ok-s.was) in
    let k = c.received_in-received.ensures.0 ∙ ap received_in xs in
    let f = frames_count b c.in_ok-r.r e in
    let m = c.play_frames-samples.ensures.0 ∙ (λ i. length (samples_from (r i) (n i) (s i) (xs i))) in
    let o = c.play_frames-samples.ensures.1 ∙ (λ i. samples_from (r i) (n i) (s i) (xs i) ++ drop (m i) c.args.output.now) in
    let w = (λ i. record { answer = Ok (record { received = k i; concealed = f i - k i; samples = m i }); output = o i })
    ∙ play_accepted b c.args.output.now (by_reading b c.args.output.now c.refuse_if.ensures (most_is (goal.at.returns c).After-refuse_if) c.in_ok-refuse_if.was ∙ accepted (read_refusal b) (read-well b c.in_ok-r.r e)) in
    (w, omega (arith, c.play_frames-samples.ensures.2, c.frames_in-frames.ensures.2, few b c.in_ok-r.r e))
