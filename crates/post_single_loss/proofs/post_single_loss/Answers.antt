use mathlib.Core.Path.{ap, ◌∙◌}
use mathlib.Core.List.{[], ◌∷◌}
use lib.IntN.{pos}
use mir.Syntax.{w32}
use mir.Facts.{to_z-of_z}
use Rattle.word.proofs.Words.{got}
use Rattle.sigproc.specs.Place.{put_at}
use Rattle.refusal.specs.Refusals.{Judged, code_of, if_accepted}
use Rattle.post_single_loss.specs.Call.{loss_number, loss_judged, single_loss_call}
use Rattle.post_single_loss.proofs.post_single_loss.Goals as goal

pub returns : goal.returns
unfolding single_loss_call
returns c =
    let a = c.args in
    let l = to_z-of_z c.ranges.limit in
    let e = c.find_into.ensures in
    let j = e.0 ∙ λ i. loss_judged a.bytes.now (l i) a.number.now in
    let n = got w32 c.code.type_inv c.code.ensures ∙ ap (λ (t : Judged). pos (code_of t)) j in
    let p = e.1 ∙ λ i. if_accepted (j i) (put_at a.number.now 0 (pos (loss_number a.bytes.now (l i)) ∷ [])) a.number.now in
    λ i. record { answer = n i; number = p i }
