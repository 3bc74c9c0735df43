-- A whole frame's answer, refused and played.
use Prim.Native.Nat.{ℕ}
use mathlib.Core.Path.{◌≡◌, sym, ap, ◌∙◌}
use mathlib.Core.List.{◌++◌}
use lib.IntN.{ℤ}
use lib.ListN.{drop}
use Rattle.std.specs.Prelude.{Result, Ok, Err}
use Rattle.refusal.specs.Refusals.{Judged}
use Rattle.refusal.specs.declared.Refusal.{Refusal}
use Rattle.shape.specs.Shape.{shape, frame_length}
use Rattle.decoder.specs.Answer.{answer, output}
use Rattle.decoder.specs.Outcome.{Outcome}
use Rattle.decoder.specs.Reshape.{reshaped_by, reshaped}
use Rattle.decoder.specs.State.{shape_of}
use Rattle.decoder.specs.declared.Answer.{Answer}
use Rattle.decoder.specs.declared.SilkDecoderState.{SilkDecoderState}
use Rattle.decode_frame.specs.Call.{Call, shape_at}
use Rattle.decode_frame.specs.Answer.{frame_refusal, frame_outcome, frame_answer, frame_output}

module _ (s : SilkDecoderState) (x : Call) where
  pub refused-answer : {e : Refusal} (a : Result Answer Refusal) → Err e ≡ frame_refusal s x → a ≡ Err e → (a ≡ frame_answer s x) × (x.output ≡ frame_output s x)
  unfolding frame_answer frame_output
  refused-answer a h k = (
    k ∙ ap (λ (j : Judged). answer j (frame_outcome s x)) h,
    ap (λ (j : Judged). output j (frame_length (shape_at x)) (frame_outcome s x).samples x.output) h,
  )

  pub played-answer : Ok tt ≡ frame_refusal s x → (o : Outcome) (n : ℕ) → o ≡ frame_outcome s x → n ≡ frame_length (shape_at x)
      → (Ok (record { state = o.state; control = o.control }) ≡ frame_answer s x) × (o.samples ++ drop n x.output ≡ frame_output s x)
  unfolding frame_answer frame_output
  played-answer h o n e k = (λ i. answer (h i) (e i), λ i. output (h i) (k i) (e i).samples x.output)

-- the frame's length n and the state t that a coming shape leaves
pub record Reshaped (khz nb : ℤ) (s : SilkDecoderState) (n : ℕ) (t : SilkDecoderState) : Type 0 where
  pub samples : n ≡ frame_length (shape khz nb)
  pub moved : t ≡ reshaped khz nb s
  pub whole : n ≡ frame_length (shape_of t)

-- x and y are the rate and the count as the calls took them
pub reshapes : {khz nb x y : ℤ} {s t : SilkDecoderState} {n : ℕ} → x ≡ khz → y ≡ nb → n ≡ frame_length (shape x y) → t ≡ reshaped x y s → Reshaped khz nb s n t
unfolding reshaped reshaped_by
reshapes {khz} {nb} {x} {y} {s} {t} {n} e f h k =
    let l : n ≡ frame_length (shape khz nb) = h ∙ λ i. frame_length (shape (e i) (f i)) in
    let m : t ≡ reshaped khz nb s = k ∙ λ i. reshaped (e i) (f i) s in
    record { samples = l; moved = m; whole = l ∙ sym (ap (λ (u : SilkDecoderState). frame_length (shape_of u)) m) }
