-- What post_single_loss answers and leaves in its slice. A call that isn't answered by 0 leaves it as lent.
use Rattle.std.specs.Prelude.{ℕ, cond, List, [], ◌∷◌, ltb, Option, Some, None, Err, ℤ, pos, length}
use Rattle.refusal.specs.Refusals.{Judged, code_of, if_accepted}
use Rattle.refusal.specs.declared.Refusal.TheVariants.{Record}
use Rattle.sigproc.specs.Place.{put_at}
use Rattle.recording.specs.Frames.{frames_in}
use Rattle.culprit.specs.Search.{first_from}
use Rattle.single_loss.specs.Answer.{loss_refusal, culprit_at}

-- the answer, and the frame's number
pub record Named : Type 0 where
  pub answer : ℤ
  pub number : List ℤ

-- a frame's number, and 0 for none
unfoldable pub number_of : Option ℕ → ℕ
number_of (Some m) = m
number_of None = 0

-- that of the first frame whose loss alone brings a sample beyond the limit
unfoldable pub loss_number : List ℕ → ℤ → ℕ
loss_number b limit = number_of (first_from (culprit_at b limit) 0 (length (frames_in b)))

-- 21 where the number has no place, before what is judged of the recording and the limit
unfoldable pub loss_judged : List ℕ → ℤ → List ℤ → Judged
loss_judged b limit number = cond (ltb (length number) 1) (Err Record) (loss_refusal b limit)

-- a refusal's number, and the slice as lent; or 0, and the frame's number in its first place
unfoldable pub single_loss_call : List ℕ → ℤ → List ℤ → Named
single_loss_call b limit number =
    let j = loss_judged b limit number in
    record { answer = pos (code_of j); number = if_accepted j (put_at number 0 (pos (loss_number b limit) ∷ [])) number }
