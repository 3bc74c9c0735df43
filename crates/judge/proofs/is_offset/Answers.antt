use lib.IntN.{pos}
use Rattle.word.proofs.Order.{lt_read_l}
use Rattle.decoder.proofs.Ends.{below, at_most}
use Rattle.judge.proofs.is_offset.Goals as goal

pub returns-in-0 : goal.returns-in-0
returns-in-0 c =
    at_most 1 c.args.n (lt_read_l (pos 0) c.ranges.n c.in-0.if-matches-own.false) (lt_read_l (pos 2) c.ranges.n c.in-0.if-matches-2-own.true)

pub returns-in_default : goal.returns-in_default
returns-in_default c = below 1 c.args.n (lt_read_l (pos 0) c.ranges.n c.in_default.if-matches-own.true)

pub returns-in_default-2 : goal.returns-in_default-2
returns-in_default-2 c =
    at_most 1 c.args.n (lt_read_l (pos 0) c.ranges.n c.in_default.if-matches-own.false) (lt_read_l (pos 2) c.ranges.n c.in_default.if-matches-2-own.false)
