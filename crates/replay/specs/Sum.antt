-- The check sum of all that a call can write.
use Rattle.std.specs.Prelude.{List, ℤ, pos}
use Rattle.checksum.specs.Sum.{sum_of}
use Rattle.replay.specs.declared.Lent.{Lent}

-- from h on, with all of xs
abbrev pub added : ℤ → List ℤ → ℤ
added = sum_of (λ x. x)

unfoldable pub sum_all : Lent → ℤ
sum_all l =
    let a = added (added (pos 0) l.words) l.halves in
    let b = added (added a l.frame) l.coefs in
    let c = added (added b l.output) l.coefficients in
    added c l.result
