use Rattle.std.proofs.Common.{ℕ, ◌+◌, ◌*◌, get_or, ◌∙◌, arith, rules}
use Rattle.le.proofs.Places.{two_bytes}
use mir.Syntax.{w16}
use Rattle.word.proofs.Words.{got}
use Rattle.le.proofs.Numbers.{signed_from}
use Rattle.le.proofs.I16Word.at.Goals as goal

pub returns : goal.returns
returns c =
    let a = c.args in
    let e = two_bytes a.b.now a.at (search rules) in
    let u : ℕ = get_or a.b.now a.at 0 + get_or a.b.now (a.at + 1) 0 * 256 in
    got w16 c.from_le_bytes.type_inv (c.from_le_bytes.ensures ∙ signed_from w16 a.b.now a.at u (omega (arith, e)) (omega (arith, c.type_inv.b a.at, c.type_inv.b (a.at + 1))))
