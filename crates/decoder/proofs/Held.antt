-- The shape at the rate that is held.
use mathlib.Core.Path.{◌≡◌, sym, ap, ◌∙◌}
use mathlib.Core.Bool.{Bool}
use lib.IntN.{ℤ}
use mir.Syntax.{w32}
use mir.Val.{SFits, to_z, of_z}
use mir.Facts.{to_z-of_z}
use Rattle.word.specs.Int.{eq_ℤ}
use Rattle.word.proofs.Order.{eq_ℤ_refl}
use Rattle.decoder.specs.With.{with_shape}
use Rattle.decoder.specs.Reshape.{reshaped, reshaped_by}
use Rattle.decoder.specs.declared.SilkDecoderState.{SilkDecoderState}

-- at the rate that is held, the state with the coming shape
pub held_rate : (k n : ℤ) (s : SilkDecoderState) → of_z w32 k ≡ of_z w32 s.fs_khz → SFits w32 k → SFits w32 n → SFits w32 s.fs_khz → with_shape s (to_z w32 (of_z w32 k)) (to_z w32 (of_z w32 n)) ≡ reshaped k n s
unfolding reshaped reshaped_by
held_rate k n s e f g h =
    let q : k ≡ s.fs_khz = sym (to_z-of_z f) ∙ ap (to_z w32) e ∙ to_z-of_z h in
    (λ i. with_shape s (to_z-of_z f i) (to_z-of_z g i))
    ∙ ap (λ (x : Bool). reshaped_by x k n s) (sym (ap (λ (z : ℤ). eq_ℤ z s.fs_khz) q ∙ eq_ℤ_refl s.fs_khz))
