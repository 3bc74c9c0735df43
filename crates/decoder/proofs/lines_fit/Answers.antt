use borrow.Author.Rules.{rules}
use mathlib.Core.Path.{◌≡◌}
use lib.ListN.{length}
use Rattle.shape.proofs.Shapes.{order_le}
use Rattle.decoder.proofs.lines_fit.Goals as goal

pub all_within-requires : goal.all_within-requires
all_within-requires c = let l : length c.args.lines.now ≡ 16 = search rules in rw (c.lpc_order.ensures, l) (order_le _)
