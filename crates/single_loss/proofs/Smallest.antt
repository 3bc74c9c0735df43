-- The search names the smallest place, or none exactly if there is none.
use Prim.Native.Nat.{ℕ, zero, suc, ◌+◌, ◌≤◌, ◌<◌}
use mathlib.Core.Path.{◌≡◌, refl, ap, ◌∙◌}
use mathlib.Core.Bool.{Bool, true, false, cond}
use mathlib.Core.List.{List}
use native.Mathlib.Omega.{arith}
use borrow.Author.Tests.{eqb-true, eqb-false}
use lib.Dec.{eqb}
use lib.IntN.{ℤ}
use lib.ListN.{length}
use Rattle.std.specs.Prelude.{Option, Some, None, Ok, Err}
use Rattle.refusal.specs.Refusals.{Judged, code_of, answered}
use Rattle.refusal.proofs.Clear.{accepted, answered_ok}
use Rattle.recording.specs.Frames.{frames_in}
use Rattle.culprit.specs.Search.{first_from}
use Rattle.single_loss.specs.Answer.{loss_refusal, culprit_at, loss_answer}
use Rattle.single_loss.specs.Claims.{Means, AnswerMeans, NoneExactly}

-- the first of n places from k on where f holds, as a number counted from 1
pub record First (f : ℕ → Bool) (k n m : ℕ) : Type 0 where
  pub at : ℕ
  pub number : m ≡ suc at
  pub low : k ≤ at
  pub high : at < k + n
  pub holds : f at ≡ true
  pub before : (i : ℕ) → k ≤ i → i < at → f i ≡ false

abbrev Names : (ℕ → Bool) → ℕ → ℕ → Option ℕ → Type 0
Names f k n (Some m) = First f k n m
Names f k n None = (i : ℕ) → k ≤ i → i < k + n → f i ≡ false

-- f fails at k, and wherever else it is asked
either_way : (f : ℕ → Bool) (k i : ℕ) → f k ≡ false → (suc k ≤ i → f i ≡ false) → k ≤ i → f i ≡ false
either_way f k i e g a = go (eqb i k) refl
  where
    go : (t : Bool) → eqb i k ≡ t → f i ≡ false
    go true q = ap f (eqb-true i k q) ∙ e
    go false q = let d = eqb-false i k q in g (omega (arith, a, d))

further : (f : ℕ → Bool) (k n : ℕ) (r : Option ℕ) → f k ≡ false → Names f (suc k) n r → Names f k (suc n) r
further f k n (Some m) e h =
    record {
      at = h.at;
      number = h.number;
      low = omega (arith, h.low);
      high = omega (arith, h.high);
      holds = h.holds;
      before = λ i a b. either_way f k i e (λ c. h.before i c b) a;
    }
further f k n None e h = λ i a b. either_way f k i e (λ c. h i c (omega (arith, b))) a

first_means : (f : ℕ → Bool) (k n : ℕ) → Names f k n (first_from f k n)
unfolding first_from
first_means f k zero = λ i a b. absurd (omega (arith, a, b))
first_means f k (suc n) = go (first_means f (suc k) n) (f k) refl
  where
    go : Names f (suc k) n (first_from f (suc k) n) → (t : Bool) → f k ≡ t → Names f k (suc n) (cond t (Some (suc k)) (first_from f (suc k) n))
    go h true e = record { at = k; number = refl; low = omega arith; high = omega arith; holds = e; before = λ i a b. absurd (omega (arith, a, b)) }
    go h false e = further f k n (first_from f (suc k) n) e h

first-none : (f : ℕ → Bool) (k n : ℕ) → ((i : ℕ) → k ≤ i → i < k + n → f i ≡ false) → first_from f k n ≡ None
unfolding first_from
first-none f k zero h = refl
first-none f k (suc n) h =
    ap (λ (t : Bool). cond t (Some (suc k)) (first_from f (suc k) n)) (h k (omega arith) (omega arith))
    ∙ first-none f (suc k) n (λ i a b. h i (omega (arith, a)) (omega (arith, b)))

-- the answer to what is not refused
found : (b : List ℕ) (limit : ℤ) → code_of (loss_refusal b limit) ≡ 0 → (c : Option ℕ) → Names (culprit_at b limit) 0 (length (frames_in b)) c → Means b limit (Ok c)
found b limit e (Some m) h = (e, record { place = h.at; number = h.number; inside = omega (arith, h.high); does = h.holds; before = λ k l. h.before k (omega arith) l })
found b limit e None h = (e, λ k l. h k (omega arith) (omega (arith, l)))

pub answer_means : AnswerMeans
unfolding loss_answer
answer_means b limit = go (loss_refusal b limit) refl
  where
    go : (j : Judged) → loss_refusal b limit ≡ j → Means b limit (answered j (first_from (culprit_at b limit) 0 (length (frames_in b))))
    go (Ok u) e =
        found b limit (ap code_of e) (first_from (culprit_at b limit) 0 (length (frames_in b)))
        (first_means (culprit_at b limit) 0 (length (frames_in b)))
    go (Err r) e = e

pub none-exactly : NoneExactly
unfolding loss_answer
none-exactly b limit e h =
    answered_ok (loss_refusal b limit) _ (accepted (loss_refusal b limit) e)
    ∙ ap Ok (first-none (culprit_at b limit) 0 (length (frames_in b)) (λ i a l. h i (omega (arith, l))))
