use mathlib.Core.Path.{refl}
use native.Mathlib.Numerals.{add-one}
use borrow.Author.Rules.{rules}
use lib.IntN.{pos}
use lib.ListN.{get_or, take}
use lib.Seq.{length-take-le, get_or-take}
use mir.Syntax.{w16, w32}
use Rattle.shape.specs.Order.{size}
use Rattle.word.proofs.Words.{kept, got}
use Rattle.nlsf.specs.Lines.{cosines}
use Rattle.nlsf.proofs.Lines.{line_nonneg, nonneg_lt}
use Rattle.nlsf.proofs.cosines.Goals as goal

pub loop-k-init : goal.loop-k-init
unfolding cosines
loop-k-init c = (refl, refl)

pub lsf_cosine-requires : goal.lsf_cosine-requires
lsf_cosine-requires c =
    let s = c.args in
    let d = size s.order in
    let h = rw (c.size.ensures, length-take-le d s.nlsf.now c.requires.0) at c.loop-k-test.true in
    let x = get_or (take c.size.result s.nlsf.now) c.loop-k.k (pos 0) in
    let f = c.unsigned_abs-arg-1.given in
    rw (c.from.ensures, c.unsigned_abs.ensures.value, kept w16 x f)
    (nonneg_lt x 32768 (rw (c.size.ensures, get_or-take d s.nlsf.now c.loop-k.k (pos 0) h) (line_nonneg s.nlsf.now d c.loop-k.k c.requires.1 h)) f)

pub loop-k-preserved : goal.loop-k-preserved
unfolding cosines
loop-k-preserved c =
    let s = c.args in
    let d = size s.order in
    let h = rw (c.size.ensures, length-take-le d s.nlsf.now c.requires.0) at c.loop-k-test.true in (
      search rules,
      rw (
        add-one,
        c.loop-k.invariant.1,
        c.ordering-place.ensures.0,
        got w32 c.lsf_cosine.type_inv c.lsf_cosine.ensures,
        c.from.ensures,
        c.unsigned_abs.ensures.value,
        kept w16 (get_or (take c.size.result s.nlsf.now) c.loop-k.k (pos 0)) c.unsigned_abs-arg-1.given,
        c.size.ensures,
        get_or-take d s.nlsf.now c.loop-k.k (pos 0) h,
      ),
    )
