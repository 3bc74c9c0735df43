use Rattle.std.proofs.Common.{arith, rules}
use Rattle.le.proofs.Places.{four_bytes}
use Rattle.le.proofs.U32Word.at.Goals as goal

pub returns : goal.returns
returns c =
    let a = c.args in
    let e = four_bytes a.b.now a.at (search rules) in
    omega (arith, e, c.from_le_bytes.ensures)
