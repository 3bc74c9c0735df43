use Prim.Native.Nat.{◌<◌}
use mathlib.Core.Path.{◌≡◌}
use mathlib.Core.List.{[], ◌∷◌}
use native.Mathlib.Omega.{arith}
use borrow.Author.Rules.{rules}
use lib.IntN.{pos, nat_abs}
use lib.ListN.{length}
use mir.Facts.{to_z-of_z}
use Rattle.word.proofs.Order.{lt_read_l}
use Rattle.word.proofs.Sizes.{fits-abs}
use Rattle.sentence.specs.Sentence.{decimal}
use Rattle.sentence.proofs.Digits.{length-decimal, signed_below, signed_above}
use Rattle.sentence.proofs.Texts.{with_len, with-with}
use Rattle.sentence.proofs.with_number.Goals.{After-unsigned_abs-size}
use Rattle.sentence.proofs.with_number.Goals as goal

-- the size of the number, and how many digits it has
size : (c : After-unsigned_abs-size) → c.unsigned_abs-size.result ≡ nat_abs c.args.v
size c = rw (c.unsigned_abs-size.ensures.value, to_z-of_z c.ranges.v)

few : (c : After-unsigned_abs-size) → length (decimal (nat_abs c.args.v)) < 11
few c =
    let v = c.args.v in
    omega (arith, length-decimal 9 (nat_abs v) (omega (arith, fits-abs v c.ranges.v)))

pub with_decimal-requires : goal.with_decimal-requires
with_decimal-requires c =
    rw (c.with_letter.ensures, with_len c.args.s (45 ∷ []), size c.before.before) (omega (arith, few c.before.before, c.requires))

pub returns-then-v-lt0 : goal.returns-then-v-lt0
returns-then-v-lt0 c =
    let l : length c.args.s.letters ≡ 64 = search rules in
    rw (c.with_decimal.ensures, c.with_letter.ensures, size c.before.before.before, signed_below c.args.v (lt_read_l (pos 0) c.ranges.v c.if-v-lt0.true))
    (with-with c.args.s (45 ∷ []) (decimal (nat_abs c.args.v)) (omega (arith, c.requires)))

pub with_decimal-requires-2 : goal.with_decimal-requires-2
with_decimal-requires-2 c =
    rw (size c.before) (omega (arith, few c.before, c.requires))

pub returns : goal.returns
returns c =
    rw (c.with_decimal-2.ensures, size c.before.before, signed_above c.args.v (lt_read_l (pos 0) c.ranges.v c.if-v-lt0.false))
