use mathlib.Core.Path.{ap, ◌∙◌}
use mathlib.Core.List.{[], ◌∷◌, ◌++◌}
use lib.IntN.{pos}
use lib.ListN.{length, drop}
use mir.Syntax.{w32}
use Rattle.word.proofs.Words.{got}
use Rattle.sigproc.specs.Place.{put_at}
use Rattle.refusal.specs.Refusals.{Judged, code_of, if_accepted}
use Rattle.playback.specs.Playback.{played_samples}
use Rattle.post_recording.specs.Reading.{play_call}
use Rattle.post_recording.proofs.post_recording_play.Goals as goal

pub returns : goal.returns
unfolding play_call
returns c =
    let a = c.args in
    let xs = played_samples a.bytes.now in
    let e = c.play_into.ensures in
    let n = got w32 c.code.type_inv c.code.ensures ∙ ap (λ (j : Judged). pos (code_of j)) e.0 in
    let o = e.1 ∙ ap (λ (j : Judged). if_accepted j (xs ++ drop (length xs) a.output.now) a.output.now) e.0 in
    let p = e.2 ∙ ap (λ (j : Judged). if_accepted j (put_at a.played.now 0 (pos (length xs) ∷ [])) a.played.now) e.0 in
    λ i. record { answer = n i; output = o i; played = p i }
