use mathlib.Core.Path.{sym}
use lib.Dec.{lit<}
use mir.Syntax.{w8}
use Rattle.word.proofs.Order.{is, isnt}
use Rattle.decoder.specs.Signals.{is_voiced}
use Rattle.decoder.proofs.is_voiced.Goals as goal

pub returns-in-2 : goal.returns-in-2
unfolding is_voiced
returns-in-2 c =
    let n = c.from in
    rw (← n.ensures) (sym (is w8 n.result 2 (lit< tt) (record { sfits = n.type_inv }) c.in-2.in-2-own.keys1))

pub returns-in_default : goal.returns-in_default
unfolding is_voiced
returns-in_default c =
    let n = c.from in
    rw (← n.ensures) (sym (isnt w8 n.result 2 c.in_default.in_default-own.rest.1))
