-- An edition is one of the two.
use mathlib.Core.Path.{◌≡◌, refl}
use mathlib.Core.Logic.{◌⊎◌, inl, inr}
use mathlib.Core.Bool.{Bool, true, false, ◌||◌}
use lib.Dec.{lit<}
use lib.IntN.{ℤ}
use mir.Syntax.{w32}
use mir.Val.{SFits}
use Rattle.word.specs.Int.{eq_ℤ}
use Rattle.word.proofs.Order.{eq_ℤ_true}
use Rattle.edition.specs.Edition.{older, newer, is_edition}

pub one_of_two : (e : ℤ) → is_edition e ≡ true → (e ≡ older) ⊎ (e ≡ newer)
unfolding is_edition
one_of_two e = go (eq_ℤ e older) refl
  where
    go : (b : Bool) → eq_ℤ e older ≡ b → (b || eq_ℤ e newer) ≡ true → (e ≡ older) ⊎ (e ≡ newer)
    go true p h = inl (eq_ℤ_true e older p)
    go false p h = inr (eq_ℤ_true e newer h)

pub edition_fits : (e : ℤ) → is_edition e ≡ true → SFits w32 e
edition_fits e h = elim (one_of_two e h) [ inl p ↦ rw p (record { sfits = lit< tt }) | inr p ↦ rw p (record { sfits = lit< tt }) ]
