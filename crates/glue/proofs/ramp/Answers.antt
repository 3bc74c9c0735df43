use mathlib.Core.Path.{◌≡◌, sym, ◌∙◌}
use mathlib.Core.List.{append-nil}
use native.Mathlib.Numerals.{add-one}
use native.Mathlib.Omega.{arith}
use lib.IntN.{pos, ◌+ℤ◌}
use lib.ListN.{get_or, drop_of_length-le}
use lib.Seq.{take_all}
use mir.Syntax.{w16, w32}
use mir.Val.{to_z, of_z}
use mir.Facts.{to_z-of_z}
use Rattle.word.specs.Int.{wrap16, wrap32}
use Rattle.word.proofs.Words.{kept}
use Rattle.macros.specs.Fixed.{smulwb}
use Rattle.glue.specs.Glue.{ramped}
use Rattle.glue.proofs.Turn.{on, off}
use Rattle.glue.proofs.ramp.Goals.{After-add32-g, After-scaled}
use Rattle.glue.proofs.ramp.Goals as goal

-- the sample of a turn
sample : (c : After-scaled) → c.scaled.result ≡ wrap16 (smulwb (to_z w32 c.loop-x.g-bits) (get_or c.loop-x.frame c.loop-x.x-index (pos 0)))
sample c =
    c.scaled.ensures ∙ rw (kept w16 (get_or c.loop-x.frame c.loop-x.x-index (pos 0)) c.scaled-arg-1.given)

next : (c : After-add32-g) → to_z w32 (of_z w32 c.add32-g.result) ≡ wrap32 (to_z w32 c.loop-x.g-bits +ℤ to_z w32 (of_z w32 c.args.slope))
next c = kept w32 _ c.add32-g.type_inv ∙ c.add32-g.ensures

pub returns-then-g-gt65536 : goal.returns-then-g-gt65536
returns-then-g-gt65536 c =
    rw (kept w16 c.scaled.result c.scaled.type_inv, ← to_z-of_z c.ranges.gain, ← to_z-of_z c.ranges.slope)
    (sym (off c.loop-x.frame c.loop-x.x-index (to_z w32 c.loop-x.g-bits) (to_z w32 (of_z w32 c.args.slope)) c.scaled.result (omega arith) (sample c.before.before) (rw (next c.before) at c.if-g-gt65536.true)) ∙ sym c.loop-x.invariant)

pub loop-x-preserved : goal.loop-x-preserved
loop-x-preserved c =
    c.loop-x.invariant
    ∙ rw (add-one, kept w16 c.scaled.result c.scaled.type_inv, next c.before)
    (on c.loop-x.frame c.loop-x.x-index (to_z w32 c.loop-x.g-bits) (to_z w32 (of_z w32 c.args.slope)) c.scaled.result (omega arith) (sample c.before.before) (rw (next c.before) at c.if-g-gt65536.false))

pub returns : goal.returns
unfolding ramped
returns c =
    rw (← to_z-of_z c.ranges.gain, ← to_z-of_z c.ranges.slope)
    (sym (c.loop-x.invariant ∙ rw (take_all c.loop-x.x-index c.loop-x.frame (omega arith), drop_of_length-le c.loop-x.frame {i = c.loop-x.x-index} (omega arith)) (append-nil c.loop-x.frame)))
