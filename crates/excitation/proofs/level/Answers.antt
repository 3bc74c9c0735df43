use mathlib.Core.Path.{refl, sym, ap, ◌∙◌}
use lib.IntN.{pos, ◌*ℤ◌, +ℤ_idr}
use mir.Syntax.{w32}
use mir.Facts.{to_z-of_z}
use Rattle.word.specs.Int.{wrap32}
use Rattle.word.proofs.Words.{kept, wrap-wrap}
use Rattle.word.proofs.Order.{lt_read_l, lt_read_r}
use Rattle.excitation.specs.Excitation.{level}
use Rattle.excitation.proofs.Samples.{level-word}
use Rattle.excitation.proofs.level.Goals as goal

pub returns-else-p-lt0 : goal.returns-else-p-lt0
unfolding level
returns-else-p-lt0 c =
    let e = lt_read_r (pos 0) c.ranges.p c.if-p-gt0.false in
    let f = lt_read_l (pos 0) c.ranges.p c.if-p-lt0.false in
    let z = wrap32 (c.args.p *ℤ pos 16384) in
    rw (kept w32 _ c.shl32-q.type_inv, c.shl32-q.ensures, kept w32 _ c.wide16.type_inv, c.wide16.ensures, to_z-of_z c.ranges.p)
    (sym (ap wrap32 (+ℤ_idr z) ∙ wrap-wrap w32 (c.args.p *ℤ pos 16384)) ∙ level-word c.args.p (pos 0) c.ranges.p (rw (e, f) refl))
