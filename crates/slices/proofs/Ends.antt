-- The slices after a call.
use mathlib.Core.Path.{◌≡◌, refl, sym, ap, ◌∙◌}
use mathlib.Core.Bool.{false≢true}
use mathlib.Core.List.{List}
use lib.IntN.{ℤ}
use lib.ListN.{length}
use Rattle.std.specs.Prelude.{Result, Ok, Err, is_ok}
use Rattle.refusal.specs.Refusals.{Judged, code_of, if_accepted, answered as judged_by}
use Rattle.refusal.specs.declared.Refusal.{Refusal}
use Rattle.decode_frame.specs.Answer.{frame_refusal, frame_answer}
use Rattle.decoder.specs.declared.Frame.{Frame}
use Rattle.layout.specs.Frame.{frame_in}
use Rattle.slices.specs.Slices.{Slices, slices, state_of, leaves}
use Rattle.slices.specs.Whole.{refusal_in, whole_call, played_on, answered, IsTaken}

-- a call that answers a row leaves what was lent
pub lent_back : {A B : Type 0} {r : Refusal} (j : Judged) (x : A) (new old : B) → Err r ≡ judged_by j x → if_accepted j new old ≡ old
lent_back (Ok u) x new old e = absurd (false≢true (ap is_ok e))
lent_back (Err r) x new old e = refl

-- refused, all slices are as they were lent
pub refused : {A : Type 0} {r : Refusal} {a : Result A Refusal} {t : Judged} {output : List ℤ} (left : A → Slices) (lent : Slices) → Err r ≡ a → t ≡ Err r → output ≡ lent.output
    → record { judged = t; after = slices lent.words lent.halves lent.frame lent.coefs lent.pulses output } ≡ leaves a left lent
refused left lent e h k =
    (λ i. record { judged = h i; after = slices lent.words lent.halves lent.frame lent.coefs lent.pulses (k i) }) ∙ λ i. leaves (e i) left lent

-- taken, they are those of its value
pub taken : {A : Type 0} {x : A} {a : Result A Refusal} {after : Slices} (left : A → Slices) (lent : Slices) → Ok x ≡ a → after ≡ left x → record { judged = Ok tt; after = after } ≡ leaves a left lent
taken left lent e k = (λ i. record { judged = Ok tt; after = k i }) ∙ λ i. leaves (e i) left lent

-- the frame that the slices hold is taken where no row refuses it
pub is_taken : {f : Frame} {u : Unit {0}} (m : Slices) → f ≡ frame_in m.frame → Ok u ≡ refusal_in m.words m.halves m.frame m.coefs (length m.pulses) (length m.output) → IsTaken f m
unfolding refusal_in frame_refusal
is_taken m e h = (λ i. code_of (frame_refusal (state_of m) (whole_call (e i) m))) ∙ sym (ap code_of h)

-- a frame that is judged by its slices' lengths is refused as one that is played
judged_of : {A : Type 0} (j : Judged) (x : A) (left : A → Slices) (lent : Slices) → j ≡ (leaves (judged_by j x) left lent).judged
judged_of (Ok u) x left lent = refl
judged_of (Err r) x left lent = refl

pub judged_alike : (m : Slices) → refusal_in m.words m.halves m.frame m.coefs (length m.pulses) (length m.output) ≡ (answered (frame_in m.frame) m).judged
unfolding refusal_in answered frame_refusal frame_answer
judged_alike m = judged_of (refusal_in m.words m.halves m.frame m.coefs (length m.pulses) (length m.output)) _ (played_on (frame_in m.frame) m) m
