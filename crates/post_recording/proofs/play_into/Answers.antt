use mathlib.Core.Path.{refl, sym, ap, ◌∙◌}
use mathlib.Core.List.{[], ◌∷◌, ◌++◌}
use borrow.Author.Tests.{ltb-false}
use lib.IntN.{pos}
use lib.ListN.{length, drop}
use Rattle.refusal.specs.Refusals.{Judged, if_accepted}
use Rattle.refusal.proofs.Clear.{at_err, stays}
use Rattle.sigproc.specs.Place.{put_at}
use Rattle.playback.specs.Playback.{played_samples, play_refusal}
use Rattle.post_recording.specs.Reading.{play_judged}
use Rattle.post_recording.proofs.Sizes.{too_short, enough, by_content}
use Rattle.post_recording.proofs.Played.{output-is, refused, played_is, few_samples}
use Rattle.post_recording.proofs.play_into.Goals as goal

pub returns-in_err-refuse_if : goal.returns-in_err-refuse_if
unfolding play_judged
returns-in_err-refuse_if c =
    let a = c.args in
    let t = at_err _ _ c.from_residual.ensures.1 in
    let j = too_short c.refuse_if.ensures refl (play_refusal a.bytes.now (length a.output.now)) c.in_err-refuse_if.was in
    (t ∙ sym j, stays _ _ t, stays _ _ t)

pub returns-in_err-p : goal.returns-in_err-p
unfolding play_judged
returns-in_err-p c =
    let a = c.args in
    let b = a.bytes.now in
    let out = a.output.now in
    let xs = played_samples b in
    let t = at_err _ _ c.from_residual-in_err-p.ensures.1 in
    let r = refused b out c.play.new.output c.play.result c.play.ensures.0 c.in_err-p.was in
    let j = by_content c.refuse_if.ensures refl (play_refusal b (length out)) c.in_ok-refuse_if.was ∙ r in (
      t ∙ sym j,
      output-is b out c.play.new.output c.play.result c.play.ensures.0 ∙ ap (λ (z : Judged). if_accepted z (xs ++ drop (length xs) out) out) (r ∙ sym t),
      stays _ _ t,
    )

pub put_played-requires : goal.put_played-requires
put_played-requires c =
    let a = c.args in (
      few_samples a.bytes.now a.output.now c.play.new.output c.play.result c.play.ensures.0 c.in_ok-p.was c.play.ensures.1,
      ltb-false (length a.played.now) 1 (enough c.refuse_if.ensures refl c.in_ok-refuse_if.was),
    )

pub returns : goal.returns
unfolding play_judged
returns c =
    let a = c.args in
    let b = a.bytes.now in
    let out = a.output.now in
    let xs = played_samples b in
    let k = played_is b out c.play.new.output c.play.result c.play.ensures.0 c.in_ok-p.was in
    let j = by_content c.refuse_if.ensures refl (play_refusal b (length out)) c.in_ok-refuse_if.was ∙ k.0 in (
      sym j,
      output-is b out c.play.new.output c.play.result c.play.ensures.0 ∙ ap (λ (z : Judged). if_accepted z (xs ++ drop (length xs) out) out) k.0,
      c.put_played.ensures ∙ λ i. put_at a.played.now 0 (pos (k.1 i) ∷ []),
    )
