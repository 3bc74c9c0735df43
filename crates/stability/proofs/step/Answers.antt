use mathlib.Core.Path.{◌≡◌, refl}
use mathlib.Core.Bool.{Bool}
use borrow.Author.Tests.{lt-ltb, le-ltb}
use lib.Dec.{ltb}
use lib.IntN.{pos, nat_abs}
use lib.Signed.{lt_z}
use mathlib.Core.Bool.{false}
use mir.Syntax.{w32}
use mir.Val.{to_z, of_z}
use mir.Facts.{to_z-of_z}
use Rattle.word.proofs.Words.{kept}
use Rattle.word.proofs.Order.{tested}
use Rattle.stability.specs.Stability.{a_limit, step, next_gain, reflection}
use Rattle.stability.proofs.step.Goals.{After-next_gain-next, Else-unsigned_abs-gt-A_LIMIT}
use Rattle.stability.proofs.step.Goals as goal

-- the coefficient is within the limit
within : (c : Else-unsigned_abs-gt-A_LIMIT) → ltb 16773022 (nat_abs c.args.a) ≡ false
within c =
    rw (← to_z-of_z c.ranges.a, ← c.unsigned_abs.ensures.value) (le-ltb 16773022 c.unsigned_abs.result c.if-unsigned_abs-gt-A_LIMIT.false)

gain : (c : After-next_gain-next) → c.next_gain-next.result ≡ next_gain (reflection c.args.a) c.args.gain
gain c =
    cc (to_z-of_z c.ranges.a, to_z-of_z c.ranges.gain, kept w32 c.reflection.result c.reflection.type_inv)

-- the test of the gain
low : {t : Bool} (c : After-next_gain-next) → lt_z (to_z w32 (of_z w32 c.next_gain-next.result)) (pos 107374) ≡ t → lt_z c.next_gain-next.result (pos 107374) ≡ t
low c = tested w32 (λ z. lt_z z (pos 107374)) c.next_gain-next.result c.next_gain-next.type_inv

pub returns-then-unsigned_abs-gt-A_LIMIT : goal.returns-then-unsigned_abs-gt-A_LIMIT
unfolding step a_limit
returns-then-unsigned_abs-gt-A_LIMIT c =
    let e = rw (c.unsigned_abs.ensures.value, to_z-of_z c.ranges.a) at (lt-ltb 16773022 c.unsigned_abs.result c.if-unsigned_abs-gt-A_LIMIT.true) in
    rw e refl

pub returns-then-next-lt107374 : goal.returns-then-next-lt107374
unfolding step a_limit
returns-then-next-lt107374 c = rw (within c.before.before.before, ← gain c.before, low c.before c.if-next-lt107374.true) refl

pub returns : goal.returns
unfolding step a_limit
returns c =
    rw (kept w32 c.next_gain-next.result c.next_gain-next.type_inv, within c.before.before.before, ← gain c.before, low c.before c.if-next-lt107374.false) refl
