use mathlib.Core.Path.{◌≡◌, refl, sym, ap, ◌∙◌, subst}
use mathlib.Core.List.{List, [], ◌∷◌}
use borrow.Author.Rules.{rules}
use denote.Ref.{Bor}
use lib.IntN.{ℤ}
use mir.Syntax.{w32}
use mir.Val.{to_z, of_z}
use mir.Facts.{to_z-of_z}
use Rattle.std.specs.Iterator.{AlwaysYields}
use Rattle.std.specs.List.{fold}
use Rattle.std.proofs.iter.Yields.{fronts}
use Rattle.std.proofs.lemmas.Fn.{fold_over, slice_gives}
use Rattle.std.proofs.lemmas.List.Sums.{fold-append}
use Rattle.word.proofs.Words.{kept}
use Rattle.cng.specs.Noise.{next_gain}
use Rattle.cng.proofs.Places.{gain_by_fold}
use Rattle.cng.proofs.smoothed_gain.Goals as goal

pub returns : goal.returns
returns c =
    let held = c.args.held in
    let gains = c.args.gains.now in
    kept w32 c.fold.result c.fold.type_inv
    ∙ fold_over {A = Bor ℤ} fronts (λ y. y.now) _ (λ (ys : List ℤ) (p : ℤ). p ≡ fold next_gain (to_z w32 (of_z w32 held)) ys) _
    (λ ys p x b q i k. let e : (q ≡ _) × (b ≡ next_gain p x.now) = search rules in (e.1 ∙ ap (λ (z : ℤ). next_gain z x.now) i ∙ sym (fold-append next_gain (to_z w32 (of_z w32 held)) ys (x.now ∷ [])), e.0))
    c.iter.result gains (to_z w32 (of_z w32 held)) c.fold.result (subst (λ (xs : List ℤ). AlwaysYields fronts (λ y. y.now) c.iter.result xs) c.iter.ensures.rest (slice_gives c.iter.result)) refl c.fold.ensures.ran
    ∙ ap (λ (h : ℤ). fold next_gain h gains) (to_z-of_z c.ranges.held) ∙ gain_by_fold held gains
