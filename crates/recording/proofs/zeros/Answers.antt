use Rattle.std.proofs.Common.{◌≡◌, ℕ, ◌+◌, ◌-◌, refl, sym, ap, ◌∙◌, take, drop, eqb, arith, rules}
use mathlib.Core.Path.{subst}
use mathlib.Core.Bool.{Bool, true, ◌&&◌}
use mathlib.Core.List.{List, [], ◌∷◌}
use denote.Ref.{Bor}
use Rattle.std.specs.List.{list_all}
use Rattle.std.specs.Iterator.{AlwaysYields}
use Rattle.std.proofs.iter.Yields.{fronts}
use Rattle.std.proofs.lemmas.Fn.{fold_over, slice_gives}
use Rattle.recording.proofs.Back.{zeros_each, all_and}
use Rattle.recording.proofs.zeros.Goals as goal

pub returns : goal.returns
returns c =
    let a = c.args in
    let n : a.at + a.n - a.at ≡ a.n = omega arith in
    let part = take (a.at + a.n - a.at) (drop a.at a.bytes.now) in
    let h : c.fold.result ≡ list_all (λ x. eqb x 0) part =
    fold_over {A = Bor ℕ} fronts (λ y. y.now) _ (λ (ys : List ℕ) (p : Bool). p ≡ list_all (λ x. eqb x 0) ys) _
    (λ ys p x b q i k. let e : (q ≡ _) × (b ≡ (p && eqb x.now 0)) = search rules in (e.1 ∙ ap (λ (t : Bool). t && eqb x.now 0) i ∙ sym (all_and ys x.now), e.0))
    c.iter.result part true c.fold.result (subst (λ (xs : List ℕ). AlwaysYields fronts (λ y. y.now) c.iter.result xs) c.iter.ensures.rest (slice_gives c.iter.result)) refl c.fold.ensures.ran in
    h ∙ ap (λ (m : ℕ). list_all (λ x. eqb x 0) (take m (drop a.at a.bytes.now))) n ∙ zeros_each a.bytes.now a.at a.n c.requires
