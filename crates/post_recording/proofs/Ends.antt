-- What a call that the writer judges leaves.
use mathlib.Core.Path.{◌≡◌, sym, ap, ◌∙◌}
use mathlib.Core.Bool.{Bool}
use mathlib.Core.List.{List, [], ◌∷◌}
use Prim.Native.Nat.{ℕ}
use Rattle.std.specs.Prelude.{Ok}
use Rattle.refusal.specs.First.{◌gives◌, first_of}
use Rattle.refusal.specs.Refusals.{Judged, if_accepted}
use Rattle.refusal.specs.declared.Refusal.TheVariants.{Record}
use Rattle.recorder.specs.Writing.{Left, left}
use Rattle.post_recording.specs.Sizes.{sized}
use Rattle.post_recording.proofs.Sizes.{by_content}

pub written : {q t j : Judged} {s short : Bool} {b : List ℕ} (new old : List ℕ) → q ≡ first_of ((s gives Record) ∷ []) → s ≡ short → q ≡ Ok tt → record { judged = t; bytes = b } ≡ left j new old
    → (t ≡ sized short j) × (b ≡ if_accepted t new old)
written {t = t} {j = j} new old r l h p =
    let w : t ≡ j = ap (λ (z : Left). z.judged) p in (
      w ∙ sym (by_content r l j h),
      ap (λ (z : Left). z.bytes) p ∙ ap (λ (z : Judged). if_accepted z new old) (sym w),
    )
