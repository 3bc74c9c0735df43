use mathlib.Core.Path.{refl}
use mathlib.Core.Logic.{inl, inr}
use lib.Dec.{lit<}
use mir.Syntax.{w32}
use Rattle.word.proofs.Order.{key, isnt}
use Rattle.edition.specs.Edition.{is_edition}
use Rattle.edition.proofs.is_edition.Goals as goal

pub returns-in-6716 : goal.returns-in-6716
unfolding is_edition
returns-in-6716 c =
    let n = c.args.edition in
    let f = c.ranges.edition in
    elim c.in-6716.in-6716-own.keys1 [
      | inl e ↦ rw (key w32 n 6716 (lit< tt) f e) refl
      | inr e ↦ rw (key w32 n 8251 (lit< tt) f e) refl
    ]

pub returns-in_default : goal.returns-in_default
unfolding is_edition
returns-in_default c =
    let n = c.args.edition in
    let never = c.in_default.in_default-own.rest.1 in
    rw (isnt w32 n 6716 (λ e. never (inl e)), isnt w32 n 8251 (λ e. never (inr e))) refl
