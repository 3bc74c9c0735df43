use mathlib.Core.Path.{◌≡◌, refl, ◌∙◌}
use native.Mathlib.Nat.{le_antisymm}
use native.Mathlib.Numerals.{add-one}
use borrow.Author.Rules.{rules}
use lib.IntN.{pos}
use lib.ListN.{get_or, take}
use lib.Seq.{length-take-le, get_or-take}
use mir.Syntax.{w16, w32}
use mir.Val.{to_z, of_z}
use Rattle.word.proofs.Sizes.{fits-abs}
use Rattle.word.proofs.Words.{kept, got}
use Rattle.announcement.specs.Rising.{below, apart_to, rising}
use Rattle.announcement.proofs.is_rising.Goals.{After-from-line}
use Rattle.announcement.proofs.is_rising.Goals as goal

-- the line that a turn reads
line : (c : After-from-line) → to_z w32 (of_z w32 c.from-line.result) ≡ get_or c.args.nlsf.now c.loop-line.line-index (pos 0)
line c =
    let s = c.args in
    let k = c.loop-line.line-index in
    let h = rw (length-take-le s.d s.nlsf.now c.requires) at c.loop-line-test.true in
    rw (got w32 c.from-line.type_inv c.from-line.ensures, kept w16 (get_or (take s.d s.nlsf.now) k (pos 0)) c.from-arg-1.given) (get_or-take s.d s.nlsf.now k (pos 0) h)

pub loop-line-init : goal.loop-line-init
unfolding below apart_to
loop-line-init c = (search rules, refl, refl)

pub loop-line-preserved : goal.loop-line-preserved
unfolding below apart_to
loop-line-preserved c =
    let x = get_or (take c.args.d c.args.nlsf.now) c.loop-line.line-index (pos 0) in
    let l = line (goal.at.loop-line-preserved c).After-from-line in (
      rw (got w32 c.from-line.type_inv c.from-line.ensures, kept w16 x c.from-arg-1.given) (fits-abs {w = w16} x (record { sfits = c.from-arg-1.given })),
      rw add-one l,
      rw (add-one, c.apart-ok.ensures, l, c.loop-line.invariant.1, c.loop-line.invariant.2) refl,
    )

pub returns : goal.returns
unfolding rising
returns c =
    let e = le_antisymm c.loop-line.auto.line-index-end c.loop-line-test.false ∙ length-take-le c.args.d c.args.nlsf.now c.requires in
    rw (c.apart.ensures, c.loop-line.invariant.1, c.loop-line.invariant.2, e) refl
