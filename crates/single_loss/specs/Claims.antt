-- Document 02, Note 14: what the answer means.
use Rattle.std.specs.Prelude.{ℕ, suc, ◌<◌, ◌≡◌, true, false, List, Option, Some, None, Result, Ok, Err, ℤ, length}
use Rattle.refusal.specs.Refusals.{code_of}
use Rattle.refusal.specs.declared.Refusal.{Refusal}
use Rattle.recording.specs.Frames.{frames_in}
use Rattle.single_loss.specs.Answer.{loss_refusal, culprit_at, loss_answer}

-- a frame number counted from 1 is that of the first frame whose loss alone brings a sample beyond L
pub record Smallest (b : List ℕ) (limit : ℤ) (m : ℕ) : Type 0 where
  pub place : ℕ
  pub number : m ≡ suc place
  pub inside : place < length (frames_in b)
  pub does : culprit_at b limit place ≡ true
  pub before : (k : ℕ) → k < place → culprit_at b limit k ≡ false

-- refused by a number; or the smallest; or none, and then no single loss does it
abbrev pub Means : List ℕ → ℤ → Result (Option ℕ) Refusal → Type 0
Means b limit (Err r) = loss_refusal b limit ≡ Err r
Means b limit (Ok (Some m)) = (code_of (loss_refusal b limit) ≡ 0) × Smallest b limit m
Means b limit (Ok None) = (code_of (loss_refusal b limit) ≡ 0) × ((k : ℕ) → k < length (frames_in b) → culprit_at b limit k ≡ false)

abbrev pub AnswerMeans : Type 0
AnswerMeans = (b : List ℕ) (limit : ℤ) → Means b limit (loss_answer b limit)

-- and none is answered for a recording that is not refused if no single loss does it
abbrev pub NoneExactly : Type 0
NoneExactly =
    (b : List ℕ) (limit : ℤ) → code_of (loss_refusal b limit) ≡ 0 → ((k : ℕ) → k < length (frames_in b) → culprit_at b limit k ≡ false)
    → loss_answer b limit ≡ Ok None
