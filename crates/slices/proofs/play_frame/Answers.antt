use mathlib.Core.Path.{◌≡◌, refl, sym, ap, ◌∙◌}
use lib.ListN.{length}
use Rattle.refusal.proofs.Clear.{at_err}
use Rattle.decode_frame.specs.Answer.{frame_refusal}
use Rattle.decode_frame.proofs.Answers.{refused-answer}
use Rattle.decoder.specs.declared.Frame.{Frame}
use Rattle.layout.specs.Frame.{frame_in}
use Rattle.slices.specs.Slices.{lent, state_of}
use Rattle.slices.specs.Whole.{whole_call, played_on, refusal_in, answered, IsTaken}
use Rattle.slices.proofs.Ends.{refused, is_taken}
use Rattle.slices.proofs.play_frame.Goals.{After-frame}
use Rattle.slices.proofs.play_frame.Goals as goal

pub returns-in_err-frame_refusal-clause-answer : goal.returns-in_err-frame_refusal-clause-answer
unfolding answered refusal_in frame_refusal
returns-in_err-frame_refusal-clause-answer c =
    let a = c.args in
    let b = lent a.state.now a.frame.now a.pulses.now a.output.now in
    let s = c.numbers.ensures in
    let n = c.numbers-numbers.ensures in
    let d = c.coefs.ensures in
    let h = c.in_err-frame_refusal.ensures ∙ λ i. refusal_in (s.0 i) (s.1 i) (n i) (d i) (length a.pulses.now) (length a.output.now) in
    let f = frame_in b.frame in
    refused (played_on f b) b (refused-answer (state_of b) (whole_call f b) _ h refl).0 (at_err _ _ c.from_residual.ensures.1) refl

-- no row refuses the frame that the slices hold
clear : {f : Frame} (c : After-frame) → f ≡ c.frame.result → let a = c.args in IsTaken f (lent a.state.now a.frame.now a.pulses.now a.output.now)
clear c e =
    let a = c.args in
    let s = c.numbers.ensures in
    let n = c.numbers-numbers.ensures in
    let d = c.coefs.ensures in
    is_taken (lent a.state.now a.frame.now a.pulses.now a.output.now) (e ∙ c.frame.ensures ∙ ap frame_in n)
    (c.in_ok-frame_refusal.ensures ∙ λ i. refusal_in (s.0 i) (s.1 i) (n i) (d i) (length a.pulses.now) (length a.output.now))

pub received-requires : goal.received-requires
received-requires c = clear (goal.at.received-requires c).After-frame (sym c.in-Received.is)

pub lost-requires : goal.lost-requires
lost-requires c = clear (goal.at.lost-requires c).After-frame (sym c.in-Lost.is)
