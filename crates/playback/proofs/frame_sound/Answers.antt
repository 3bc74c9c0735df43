use mathlib.Core.Path.{◌≡◌, sym, ap, ◌∙◌}
use lib.ListN.{length}
use Rattle.word.proofs.Lists.{length-tabulate}
use mir.Facts.{to_z-of_z}
use Rattle.decoder.specs.declared.Frame.TheVariants.{Received}
use Rattle.decode_frame.specs.Call.{frame_call}
use Rattle.decode_frame.specs.Answer.{frame_answer, frame_output, state_left}
use Rattle.record.specs.Record.{pulses_in}
use Rattle.record.specs.Recorded.{lost, recorded_in}
use Rattle.playback.specs.Playback.{call_of, sound_of, silence}
use Rattle.playback.proofs.Answers.{left}
use borrow.Author.Rules.{rules}
use Rattle.playback.proofs.frame_sound.Goals as goal

pub returns-then-not-is_received : goal.returns-then-not-is_received
unfolding recorded_in
returns-then-not-is_received c =
    let r = to_z-of_z c.ranges.rate in
    let n = to_z-of_z c.ranges.subframes in
    c.lost_sound.ensures ∙ (λ i. sound_of c.args.s (call_of (r i) (n i) lost)) ∙ rw (sym c.is_received.ensures ∙ c.if-not-is_received.true)

pub slice_bounds-received_frame-end : goal.slice_bounds-received_frame-end
unfolding pulses_in
slice_bounds-received_frame-end c =
    let n : length c.pulses-pulses.result ≡ 320 = rw c.pulses-pulses.ensures (length-tabulate 320 _) in
    search rules

pub returns : goal.returns
unfolding call_of sound_of recorded_in silence
returns c =
    let r = to_z-of_z c.ranges.rate in
    let n = to_z-of_z c.ranges.subframes in
    let q = c.params-q.ensures in
    let k = c.control-c.ensures in
    let w = c.rows-rows.ensures in
    let l = c.lines-lines.ensures in
    let p = c.pulses-pulses.ensures in
    let a = c.state_left-state.ensures ∙ ap (state_left c.args.s) (c.received_frame-answer.ensures.0 ∙ λ i. frame_answer c.args.s (frame_call (r i) (n i) (Received (q i)) (k i) (w i) (l i) (p i) silence)) ∙ left c.args.s _ in
    let o = c.received_frame-answer.ensures.1 ∙ λ i. frame_output c.args.s (frame_call (r i) (n i) (Received (q i)) (k i) (w i) (l i) (p i) silence) in
    rw (sym c.is_received.ensures ∙ c.if-not-is_received.false) (λ i. record { state = a i; samples = o i })
