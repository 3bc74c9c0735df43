use mathlib.Core.Path.{◌≡◌, refl}
use native.Mathlib.Omega.{arith}
use borrow.Author.Rules.{rules}
use lib.Dec.{lit≤}
use mir.Syntax.{w32}
use mir.Val.{to_z, of_z}
use Rattle.std.specs.Prelude.{codes}
use Rattle.word.proofs.Words.{kept}
use Rattle.sentence.specs.Sentence.{decimal, signed, filled, words, number, sentence, sentence_of}
use Rattle.sentence.proofs.Digits.{length-decimal}
use Rattle.sentence.proofs.Texts.{filled-with}
use Rattle.sentence.proofs.sentence_of.Goals as goal

pub with_number-requires : goal.with_number-requires
unfolding filled
with_number-requires c = rw c.filled.ensures (lit≤ tt)

pub returns-in-Ok : goal.returns-in-Ok
unfolding sentence_of sentence words number
returns-in-Ok c =
    let g : to_z w32 (of_z w32 c.in-Ok.gain) ≡ c.in-Ok.gain = kept w32 c.in-Ok.gain (search rules) in
    rw (c.with_number.ensures, c.filled.ensures, c.in-Ok.is, g) (filled-with (codes "stable, inverse gain ") (signed c.in-Ok.gain))

pub returns-in-Err-Sum : goal.returns-in-Err-Sum
unfolding sentence_of sentence words number
returns-in-Err-Sum c =
    rw (c.filled-in-Err-Sum.ensures, c.in-Err-Sum.is, rw c.in-Err-Sum.is at c.in-Err-Sum.field-0-is) refl

pub with_decimal-requires : goal.with_decimal-requires
unfolding filled
with_decimal-requires c = rw c.filled-in-Err-Coefficient.ensures (omega (arith, length-decimal 9 c.from.result (omega arith)))

pub returns-in-Err-Coefficient : goal.returns-in-Err-Coefficient
unfolding sentence_of sentence words number
returns-in-Err-Coefficient c =
    let i = c.in-Err-Coefficient in
    rw (c.with_decimal.ensures, c.filled-in-Err-Coefficient.ensures, c.from.ensures, i.is, rw i.is at i.field-0-is) (filled-with (codes "unstable, coefficient too large at step ") (decimal i.k))

pub with_decimal-requires-in-Err-Gain : goal.with_decimal-requires-in-Err-Gain
unfolding filled
with_decimal-requires-in-Err-Gain c = rw c.filled-in-Err-Gain.ensures (omega (arith, length-decimal 9 c.from-in-Err-Gain.result (omega arith)))

pub returns-in-Err-Gain : goal.returns-in-Err-Gain
unfolding sentence_of sentence words number
returns-in-Err-Gain c =
    let i = c.in-Err-Gain in
    rw (c.with_decimal-in-Err-Gain.ensures, c.filled-in-Err-Gain.ensures, c.from-in-Err-Gain.ensures, i.is, rw i.is at i.field-0-is) (filled-with (codes "unstable, gain too small at step ") (decimal i.k))

pub with_decimal-requires-in-Err-Overflow : goal.with_decimal-requires-in-Err-Overflow
unfolding filled
with_decimal-requires-in-Err-Overflow c = rw c.filled-in-Err-Overflow.ensures (omega (arith, length-decimal 9 c.from-in-Err-Overflow.result (omega arith)))

pub returns-in-Err-Overflow : goal.returns-in-Err-Overflow
unfolding sentence_of sentence words number
returns-in-Err-Overflow c =
    let i = c.in-Err-Overflow in
    rw (c.with_decimal-in-Err-Overflow.ensures, c.filled-in-Err-Overflow.ensures, c.from-in-Err-Overflow.ensures, i.is, rw i.is at i.field-0-is) (filled-with (codes "unstable, overflow at step ") (decimal i.k))
