use Rattle.std.proofs.Common.{arith, rules}
use Rattle.le.proofs.Places.{two_bytes}
use Rattle.le.proofs.U16Word.at.Goals as goal

pub returns : goal.returns
returns c =
    let a = c.args in
    let e = two_bytes a.b.now a.at (search rules) in
    omega (arith, e, c.from_le_bytes.ensures)
