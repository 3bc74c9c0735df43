use mathlib.Core.Path.{refl, sym, ap, ◌∙◌}
use borrow.Author.Tests.{lt-ltb, le-ltb}
use lib.IntN.{pos}
use lib.ListN.{length}
use mir.Syntax.{w32}
use mir.Facts.{to_z-of_z}
use Rattle.word.proofs.Words.{got}
use Rattle.stability.specs.Stability.{answer_number, answer_value}
use Rattle.post_filters.specs.Calls.{called, given, stability_call}
use Rattle.post_filters.proofs.Ends.{set-two}
use Rattle.post_filters.proofs.post_stability.Goals as goal

pub returns-then-answer-lt2 : goal.returns-then-answer-lt2
unfolding stability_call called
returns-then-answer-lt2 c = rw (lt-ltb (length c.args.answer.now) 2 c.if-answer-lt2.true) refl

pub returns-in-Ok : goal.returns-in-Ok
unfolding stability_call called given
returns-in-Ok c =
    let lent = c.args.answer.now in
    let e = sym (rw (to_z-of_z c.ranges.edition) at c.in-Ok.ensures) in
    let x = got w32 c.from.type_inv (c.from.ensures ∙ ap pos c.answer_number.ensures) in
    let y = got w32 c.answer_value.type_inv c.answer_value.ensures in
    rw (le-ltb (length lent) 2 c.if-answer-lt2.false, e, x, y, set-two lent (pos (answer_number c.in-Ok.s)) (answer_value c.in-Ok.s) c.if-answer-lt2.false) refl

pub returns-in-Err : goal.returns-in-Err
unfolding stability_call called given
returns-in-Err c =
    let e = sym (rw (to_z-of_z c.ranges.edition) at c.in-Err.ensures) in
    let n = got w32 c.code.type_inv c.code.ensures in
    rw (le-ltb (length c.args.answer.now) 2 c.if-answer-lt2.false, e, n) refl
