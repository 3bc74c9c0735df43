-- What the tests of the slices' lengths say.
use Prim.Native.Nat.{ℕ, ◌≤◌}
use mathlib.Core.Path.{◌≡◌, refl, sym, ◌∙◌, ap}
use mathlib.Core.Bool.{Bool, true, false, false≢true}
use mathlib.Core.List.{[], ◌∷◌}
use borrow.Author.Tests.{ltb-false}
use lib.Dec.{ltb}
use Rattle.std.specs.Prelude.{Ok, Err, is_ok}
use Rattle.word.proofs.Rows.{neither}
use Rattle.refusal.specs.First.{◌gives◌, first_of}
use Rattle.refusal.specs.Refusals.{Judged, code_of}
use Rattle.refusal.proofs.Clear.{clear}
use Rattle.refusal.specs.declared.Refusal.{Refusal}
use Rattle.refusal.specs.declared.Refusal.TheVariants.{Record}
use Rattle.layout.specs.Frame.{FRAME, COEFS}
use Rattle.post_recording.specs.Sizes.{short_numbers, short_with_pulses, sized}

pub long_numbers : (frame coefs : ℕ) → short_numbers frame coefs ≡ false → (FRAME ≤ frame) × (COEFS ≤ coefs)
unfolding short_numbers
long_numbers frame coefs e =
    let b = neither (ltb frame FRAME) (ltb coefs COEFS) e in
    (ltb-false frame FRAME b.0, ltb-false coefs COEFS b.1)

pub long : (frame coefs pulses : ℕ) → short_with_pulses frame coefs pulses ≡ false → (FRAME ≤ frame) × (COEFS ≤ coefs) × (320 ≤ pulses)
unfolding short_with_pulses
long frame coefs pulses e =
    let b = neither (short_numbers frame coefs) (ltb pulses 320) e in
    let l = long_numbers frame coefs b.0 in
    (l.0, l.1, ltb-false pulses 320 b.1)

-- the row of the sizes, as a call judges it, before what the slices hold
module _ {q : Judged} {s short : Bool} (r : q ≡ first_of ((s gives Record) ∷ [])) (l : s ≡ short) where
  row : q ≡ first_of ((short gives Record) ∷ [])
  row = r ∙ ap (λ (b : Bool). first_of ((b gives Record) ∷ [])) l

  pub too_short : {e : Refusal} (j : Judged) → q ≡ Err e → sized short j ≡ Err e
  unfolding sized first_of
  too_short {e} j h = go short (sym row ∙ h)
    where
      go : (b : Bool) → first_of ((b gives Record) ∷ []) ≡ Err e → sized b j ≡ Err e
      go true k = k
      go false k = absurd (false≢true (ap is_ok (sym k)))

  pub enough : q ≡ Ok tt → short ≡ false
  enough h = (clear ((short gives Record) ∷ []) (ap code_of (sym row ∙ h))).0

  pub by_content : (j : Judged) → q ≡ Ok tt → sized short j ≡ j
  unfolding sized
  by_content j h = rw (enough h) refl
