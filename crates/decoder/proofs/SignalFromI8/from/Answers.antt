use lib.Dec.{lit<}
use mir.Syntax.{w8}
use mir.Facts.{to_z-of_z}
use Rattle.word.proofs.Order.{key, isnt}
use Rattle.decoder.specs.Signals.{signal_of}
use Rattle.decoder.proofs.SignalFromI8.from.Goals as goal

pub returns-in-0 : goal.returns-in-0
unfolding signal_of
returns-in-0 c = rw (key w8 c.args.n 0 (lit< tt) c.ranges.n c.in-0.in-0-own.keys1)

pub returns-in-1 : goal.returns-in-1
unfolding signal_of
returns-in-1 c = rw (key w8 c.args.n 1 (lit< tt) c.ranges.n c.in-1.in-1-own.keys2)

pub returns-in-2 : goal.returns-in-2
unfolding signal_of
returns-in-2 c = rw (key w8 c.args.n 2 (lit< tt) c.ranges.n c.in-2.in-2-own.keys3)

pub returns-in_default : goal.returns-in_default
unfolding signal_of
returns-in_default c =
    let n = c.args.n in
    rw (isnt w8 n 0 c.in_default.in_default-own.rest.0.0.1, isnt w8 n 1 c.in_default.in_default-own.rest.0.1, isnt w8 n 2 c.in_default.in_default-own.rest.1, to_z-of_z c.ranges.n)
