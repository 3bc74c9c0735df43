use Rattle.std.proofs.lemmas.Nat.{one_shl}
use Rattle.cng.proofs.Numbers.{mask_is}
use Rattle.cng.proofs.exc_mask.Goals as goal

pub returns : goal.returns
returns c =
    let l = c.ilog2.ensures in
    let m = mask_is c.args.n c.ilog2.result (rw c.min.ensures at l.power_le) (rw c.min.ensures at l.next_power_gt) in
    rw (one_shl c.ilog2.result 64 l.bound) m
