use mathlib.Core.Path.{◌≡◌, refl, sym, ap, ◌∙◌}
use borrow.Author.Rules.{rules}
use lib.IntN.{ℤ, pos}
use mir.Syntax.{w32}
use mir.Val.{to_z, of_z}
use Rattle.word.specs.Int.{eq_ℤ}
use Rattle.word.proofs.Words.{kept}
use Rattle.word.proofs.Order.{eq_ℤ_refl, eq_ℤ_ne}
use Rattle.shape.specs.Shape.{rate_of}
use Rattle.shape.proofs.Shapes.{rate_back, rate_kept}
use Rattle.cng.specs.Noise.{cng_ready}
use Rattle.cng.proofs.ready.Goals as goal

pub returns-then-shape-h : goal.returns-then-shape-h
unfolding cng_ready
returns-then-shape-h c =
    let k = c.args.shape.fs_khz in
    let other = eq_ℤ_ne (pos (rate_of k)) c.args.h.now.fs_khz (λ p. c.if-shape-h.true (ap (of_z w32) (rate_kept k c.args.shape.rate ∙ p))) in
    rw (c.silk_cng_reset.ensures, other) refl

pub returns-else-shape-h : goal.returns-else-shape-h
unfolding cng_ready
returns-else-shape-h c =
    let k = c.args.shape.fs_khz in
    let h = c.args.h.now in
    let e : k ≡ h.fs_khz =
    sym (rate_back k c.args.shape.rate) ∙ ap (to_z w32) c.if-shape-h.false ∙ kept w32 h.fs_khz (search rules) in
    let same = ap (λ (z : ℤ). eq_ℤ z h.fs_khz) (sym (rate_kept k c.args.shape.rate) ∙ e) ∙ eq_ℤ_refl h.fs_khz in
    rw same refl
