-- What each exported function answers and leaves in the slice that it writes, from what it was lent.
use Rattle.std.specs.Prelude.{ℕ, Bool, cond, Result, Ok, Err, List, [], ◌∷◌, ◌++◌, ltb, ℤ, pos, negsuc, length, drop}
use Rattle.refusal.specs.Refusals.{refusal_number, code_of}
use Rattle.refusal.specs.declared.Refusal.{Refusal}
use Rattle.stability.specs.Stability.{answer_number, answer_value, tested_under}
use Rattle.nlsf.specs.Filter.{nlsf2a_refusal, nlsf2a_of}
use Rattle.announcement.specs.Cosine.{cosine_at}
use Rattle.announcement.specs.Rising.{rising_of}
use Rattle.sentence.specs.Sentence.{sentence_of}

-- a number, and a slice of numbers or of bytes
pub record Called (A : Type 0) : Type 0 where
  pub answer : ℤ
  pub slice : List A

-- what a call that isn't short of places leaves: refused, the slice as it was lent, else a new front of it, from the call's value
unfoldable pub given : {A B : Type 0} → (B → List A) → Result B Refusal → List A → Called A
given front (Ok x) lent = record { answer = pos 0; slice = front x ++ drop (length (front x)) lent }
given front (Err r) lent = record { answer = pos (refusal_number r); slice = lent }

-- -1 where the slice is too short
unfoldable pub called : {A B : Type 0} → Bool → (B → List A) → Result B Refusal → List A → Called A
called short front answer lent = cond short (record { answer = negsuc 0; slice = lent }) (given front answer lent)

-- the number and the value of the test's answer under an edition
unfoldable pub stability_call : List ℤ → ℕ → ℤ → List ℤ → Called ℤ
stability_call a d e lent =
    called (ltb (length lent) 2) (λ s. pos (answer_number s) ∷ answer_value s ∷ []) (tested_under a d e) lent

-- its sentence
unfoldable pub sentence_call : List ℤ → ℕ → ℤ → List ℕ → Called ℕ
sentence_call a d e lent = called (ltb (length lent) 64) (λ s. (sentence_of s).letters) (tested_under a d e) lent

-- the filter from lines, whose slice of coefficients is judged by the refusal
unfoldable pub filter_call : List ℤ → List ℤ → ℕ → ℤ → Called ℤ
filter_call lent lines d e =
    record { answer = pos (code_of (nlsf2a_refusal (length lent) lines d e)); slice = nlsf2a_of lent lines d e }

-- an entry of the cosine table
unfoldable pub cosine_call : ℕ → List ℤ → Called ℤ
cosine_call place lent = called (ltb (length lent) 1) (λ x. x ∷ []) (cosine_at place) lent

-- 1 if lines rise, else 0
unfoldable pub rising_call : List ℤ → ℕ → List ℤ → Called ℤ
rising_call lines d lent = called (ltb (length lent) 1) (λ b. cond b (pos 1) (pos 0) ∷ []) (rising_of lines d) lent
