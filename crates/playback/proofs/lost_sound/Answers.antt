use mathlib.Core.Path.{ap, ◌∙◌}
use mathlib.Core.List.{[]}
use mir.Facts.{to_z-of_z}
use Rattle.decoder.specs.declared.Frame.TheVariants.{Lost}
use Rattle.decode_frame.specs.Call.{frame_call}
use Rattle.decode_frame.specs.Answer.{frame_answer, frame_output, state_left}
use Rattle.record.specs.Recorded.{lost}
use Rattle.playback.specs.Playback.{no_control, call_of, sound_of, silence}
use Rattle.playback.proofs.Answers.{left}
use Rattle.playback.proofs.lost_sound.Goals as goal

pub returns : goal.returns
unfolding no_control silence call_of sound_of
returns c =
    let r = to_z-of_z c.ranges.rate in
    let n = to_z-of_z c.ranges.subframes in
    let a = c.state_left-state.ensures ∙ ap (state_left c.args.s) (c.lost_frame-answer.ensures.0 ∙ λ i. frame_answer c.args.s (frame_call (r i) (n i) Lost no_control [] [] [] silence)) ∙ left c.args.s (call_of c.args.rate c.args.subframes lost) in
    let o = c.lost_frame-answer.ensures.1 ∙ λ i. frame_output c.args.s (frame_call (r i) (n i) Lost no_control [] [] [] silence) in
    λ i. record { state = a i; samples = o i }
