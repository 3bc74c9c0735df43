use mathlib.Core.Path.{sym, ap, ◌∙◌}
use mathlib.Core.List.{[], ◌∷◌}
use borrow.Author.Tests.{ltb-false}
use lib.IntN.{pos}
use lib.ListN.{length}
use mir.Syntax.{w32}
use mir.Facts.{to_z-of_z}
use Rattle.word.proofs.Words.{got}
use Rattle.refusal.proofs.Clear.{at_err, stays}
use Rattle.sigproc.specs.Place.{put_at}
use Rattle.single_loss.specs.Answer.{loss_answer}
use Rattle.post_single_loss.proofs.Named.{refused, not_refused, named, small, too_short, enough, by_content}
use Rattle.post_single_loss.proofs.find_into.Goals as goal

pub returns-in_err-refuse_if : goal.returns-in_err-refuse_if
returns-in_err-refuse_if c =
    let a = c.args in
    let t = at_err _ _ c.from_residual.ensures.1 in
    (t ∙ sym (too_short a.bytes.now a.limit a.number.now c.refuse_if.ensures c.in_err-refuse_if.was), stays _ _ t)

pub returns-in_err-found : goal.returns-in_err-found
returns-in_err-found c =
    let a = c.args in
    let t = at_err _ _ c.from_residual-in_err-found.ensures.1 in
    let f = ap (loss_answer a.bytes.now) (sym (to_z-of_z c.ranges.limit)) ∙ sym c.single_loss.ensures ∙ c.in_err-found.was in
    (t ∙ sym (by_content a.bytes.now a.limit a.number.now c.refuse_if.ensures c.in_ok-refuse_if.was ∙ refused a.bytes.now a.limit f), stays _ _ t)

pub number_of-requires : goal.number_of-requires
number_of-requires c =
    let a = c.args in
    small a.bytes.now a.limit (ap (loss_answer a.bytes.now) (sym (to_z-of_z c.ranges.limit)) ∙ sym c.single_loss.ensures ∙ c.in_ok-found.was)

pub copy_at-requires : goal.copy_at-requires
copy_at-requires c =
    let a = c.args in
    ltb-false (length a.number.now) 1 (enough a.bytes.now a.limit a.number.now c.refuse_if.ensures c.in_ok-refuse_if.was)

pub returns : goal.returns
returns c =
    let a = c.args in
    let f = ap (loss_answer a.bytes.now) (sym (to_z-of_z c.ranges.limit)) ∙ sym c.single_loss.ensures ∙ c.in_ok-found.was in
    let m = got w32 c.number_of.type_inv c.number_of.ensures ∙ ap pos (named a.bytes.now a.limit f) in (
      sym (by_content a.bytes.now a.limit a.number.now c.refuse_if.ensures c.in_ok-refuse_if.was ∙ not_refused a.bytes.now a.limit f),
      c.copy_at.ensures ∙ λ i. put_at a.number.now 0 (m i ∷ []),
    )
