-- The end of a call that stores a state.
use mathlib.Core.Path.{◌≡◌, refl, ap, ◌∙◌}
use mathlib.Core.List.{List, []}
use lib.IntN.{ℤ}
use Rattle.std.specs.Prelude.{Result, Ok, Err}
use Rattle.refusal.specs.Refusals.{Judged, if_accepted, answered as judged_by}
use Rattle.refusal.specs.declared.Refusal.{Refusal}
use Rattle.decoder.specs.declared.SilkDecoderState.{SilkDecoderState}
use Rattle.slices.specs.Slices.{Slices, Answered, slices, with_state, leaves}
use Rattle.stages.specs.Stages.{stored_on}

module _ (m : Slices) where
  -- the slices of m that hold its state
  abbrev state_alone : Slices
  state_alone = slices m.words m.halves [] [] [] []

  -- what a call on them leaves, with the other slices of m and samples
  abbrev among : List ℤ → Answered → Answered
  among output x =
      record { judged = x.judged; after = slices x.after.words x.after.halves m.frame m.coefs m.pulses output }

  alone : (a : Result SilkDecoderState Refusal) → among m.output (stored_on a state_alone) ≡ stored_on a m
  alone (Ok s) = refl
  alone (Err r) = refl

  beside : (j : Judged) (s : SilkDecoderState) (new : List ℤ) → among (if_accepted j new m.output) (stored_on (judged_by j s) state_alone) ≡ leaves (judged_by j s) (λ t. with_state m t (if_accepted j new m.output)) m
  beside (Ok u) s new = refl
  beside (Err r) s new = refl

  module _ (a : Result SilkDecoderState Refusal) {x : Answered} (e : x ≡ stored_on a state_alone) where
    -- a call without samples
    pub stored_alone : (b : Result SilkDecoderState Refusal) → a ≡ b → among m.output x ≡ stored_on b m
    stored_alone b p = ap (among m.output) (e ∙ λ i. stored_on (p i) state_alone) ∙ alone b

    -- one that leaves new samples where it is taken
    pub stored_beside : (j : Judged) (s : SilkDecoderState) (new : List ℤ) {output : List ℤ} → a ≡ judged_by j s → output ≡ if_accepted j new m.output
        → among output x ≡ leaves (judged_by j s) (λ t. with_state m t (if_accepted j new m.output)) m
    stored_beside j s new {output} p q = (λ i. among (q i) ((e ∙ λ k. stored_on (p k) state_alone) i)) ∙ beside j s new
