-- What a call that plays a recording answers and leaves.
use Prim.Native.Nat.{ℕ, ◌≤◌}
use mathlib.Core.Path.{◌≡◌, sym, ap, subst, ◌∙◌}
use mathlib.Core.List.{List, ◌++◌}
use lib.IntN.{ℤ}
use lib.ListN.{length, drop}
use Rattle.std.specs.Prelude.{Result, Ok, Err, IfOk}
use Rattle.refusal.specs.Refusals.{if_accepted}
use Rattle.refusal.specs.declared.Refusal.{Refusal}
use Rattle.refusal.proofs.Clear.{answered_is, accepted, judged_err}
use Rattle.playback.specs.declared.Played.{Played}
use Rattle.playback.specs.Playback.{Output, played_samples, play_refusal, play_of}

module _ (b : List ℕ) (out left : List ℤ) (t : Result Played Refusal) (p : record { answer = t; output = left } ≡ play_of b out) where
  pub output-is : left ≡ if_accepted (play_refusal b (length out)) (played_samples b ++ drop (length (played_samples b)) out) out
  unfolding play_of
  output-is = ap (λ (z : Output). z.output) p

  pub refused : {e : Refusal} → t ≡ Err e → play_refusal b (length out) ≡ Err e
  unfolding play_of
  refused h = judged_err (play_refusal b (length out)) _ (sym (ap (λ (z : Output). z.answer) p) ∙ h)

  module _ {x : Played} (h : t ≡ Ok x) where
    pub played_is : (play_refusal b (length out) ≡ Ok tt) × (x.samples ≡ length (played_samples b))
    unfolding play_of
    played_is =
        let k = answered_is (play_refusal b (length out)) _ x (sym (ap (λ (z : Output). z.answer) p) ∙ h) in
        (accepted (play_refusal b (length out)) k.0, sym (ap (λ (z : Played). z.samples) k.1))

    pub few_samples : IfOk t (λ z. z.samples ≤ 19200) → x.samples ≤ 19200
    few_samples k = subst (λ (r : Result Played Refusal). IfOk r (λ z. z.samples ≤ 19200)) h k
