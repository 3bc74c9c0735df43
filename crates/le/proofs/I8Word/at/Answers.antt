use Rattle.std.proofs.Common.{ℕ, get_or, ◌∙◌, arith, rules}
use Rattle.le.proofs.Places.{one_byte}
use mir.Syntax.{w8}
use Rattle.word.proofs.Words.{got}
use Rattle.le.proofs.Numbers.{signed_from}
use Rattle.le.proofs.I8Word.at.Goals as goal

pub returns : goal.returns
returns c =
    let a = c.args in
    let e = one_byte a.b.now a.at (search rules) in
    let u : ℕ = get_or a.b.now a.at 0 in
    got w8 c.from_le_bytes.type_inv (c.from_le_bytes.ensures ∙ signed_from w8 a.b.now a.at u (omega (arith, e)) (omega (arith, c.type_inv.b a.at)))
