use lib.IntN.{pos}
use mir.Syntax.{w8}
use mir.Val.{SFits}
use Rattle.word.proofs.Order.{lt_read_l}
use Rattle.decoder.specs.Signals.{is_type}
use Rattle.decoder.proofs.Ends.{below, at_most}
use Rattle.decoder.proofs.is_type.Goals as goal

pub returns-in-0-to-2 : goal.returns-in-0-to-2
unfolding is_type
returns-in-0-to-2 c =
    let n = c.from in
    let f : SFits w8 n.result = record { sfits = n.type_inv } in
    rw (← n.ensures) (at_most 2 n.result (lt_read_l (pos 0) f c.in-0-to-2.if-matches-own.false) (lt_read_l (pos 3) f c.in-0-to-2.if-matches-2-own.true))

pub returns-in_default : goal.returns-in_default
unfolding is_type
returns-in_default c =
    let n = c.from in
    let f : SFits w8 n.result = record { sfits = n.type_inv } in
    rw (← n.ensures) (below 2 n.result (lt_read_l (pos 0) f c.in_default.if-matches-own.true))

pub returns-in_default-2 : goal.returns-in_default-2
unfolding is_type
returns-in_default-2 c =
    let n = c.from in
    let f : SFits w8 n.result = record { sfits = n.type_inv } in
    rw (← n.ensures) (at_most 2 n.result (lt_read_l (pos 0) f c.in_default.if-matches-own.false) (lt_read_l (pos 3) f c.in_default.if-matches-2-own.false))
