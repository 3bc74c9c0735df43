use mathlib.Core.Path.{◌∙◌}
use mir.Facts.{to_z-of_z}
use Rattle.record.specs.Recorded.{recorded_in}
use Rattle.playback.specs.Playback.{call_of, sound_of}
use Rattle.heard.specs.Loud.{heard_in}
use Rattle.heard.proofs.Laws.{heard-shape}
use Rattle.heard.proofs.frame_heard.Goals as goal

pub returns : goal.returns
returns c =
    let l = to_z-of_z c.ranges.limit in
    let h = to_z-of_z c.ranges.khz in
    let n = to_z-of_z c.ranges.nb_subfr in
    let x = recorded_in c.args.r.now.bytes.now in
    let e = c.frame_sound.ensures ∙ λ i. sound_of c.args.s (call_of (h i) (n i) x) in
    c.heard_in.ensures ∙ (λ i. heard_in (l i) (h i) (n i) (e i)) ∙ heard-shape c.args.limit c.args.s c.args.khz c.args.nb_subfr x
