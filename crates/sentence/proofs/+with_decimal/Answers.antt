use Rattle.std.proofs.Common.{◌≡◌, ◌+◌, ◌/◌, ◌%◌, [], ◌∷◌, length, refl, ap, arith, rules}
use Rattle.sentence.specs.Sentence.{decimal}
use Rattle.sentence.proofs.Digits.{decimal-one, decimal-more, length_more}
use Rattle.sentence.proofs.Texts.{with_len, with-with}
use Rattle.sentence.proofs.+with_decimal.Goals as goal

pub with_letter-requires : goal.with_letter-requires
with_letter-requires t c = omega (arith, c.requires, ap length (decimal-one c.args.n c.if-n-lt10.true))

pub returns-then-n-lt10 : goal.returns-then-n-lt10
returns-then-n-lt10 t c = rw (c.with_letter.ensures, decimal-one c.args.n c.if-n-lt10.true) refl

pub with_decimal-requires : goal.with_decimal-requires
with_decimal-requires t c =
    let n = c.args.n in
    (omega (arith, c.decreases, c.if-n-lt10.false), omega (arith, c.requires, length_more n c.if-n-lt10.false))

pub with_letter-requires-2 : goal.with_letter-requires-2
with_letter-requires-2 t c =
    let n = c.args.n in
    rw (c.with_decimal.ensures, with_len c.args.s (decimal (n / 10))) (omega (arith, c.requires, length_more n c.if-n-lt10.false))

pub returns : goal.returns
returns t c =
    let s = c.args.s in
    let n = c.args.n in
    let l : length s.letters ≡ 64 = search rules in
    rw (c.with_letter-2.ensures, c.with_decimal.ensures, decimal-more n c.if-n-lt10.false)
    (with-with s (decimal (n / 10)) ((48 + n % 10) ∷ []) (omega (arith, c.requires)))
