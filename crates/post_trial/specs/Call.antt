-- What post_trial answers and leaves in its slice of counts, from what it was lent.
use Rattle.std.specs.Prelude.{ℕ, Bool, cond, ◌||◌, List, map, ltb, Result, Ok, Err, ℤ, pos, negsuc, length, take}
use Rattle.refusal.specs.Refusals.{refusal_number}
use Rattle.refusal.specs.declared.Refusal.{Refusal}
use Rattle.sigproc.specs.Place.{put_at}
use Rattle.listener.specs.declared.Counts.{Counts}
use Rattle.trial.specs.Trial.{trial_of}

-- a number, and the slice
pub record Told : Type 0 where
  pub answer : ℤ
  pub counts : List ℕ

abbrev pub told : ℤ → List ℕ → Told
told answer counts = record { answer = answer; counts = counts }

-- slices of these lengths are too short for sixteen seeds and three counts for each
unfoldable pub short_trial : ℕ → ℕ → Bool
short_trial seeds counts = ltb seeds 16 || ltb counts 48

-- sixteen counts received, then those concealed, then those squelched
unfoldable pub put_counts : List ℕ → List Counts → List ℕ
put_counts counts rows =
    put_at (put_at (put_at counts 0 (map (λ (c : Counts). c.received) rows)) 16 (map (λ (c : Counts). c.concealed) rows)) 32 (map (λ (c : Counts). c.squelched) rows)

-- 0, and the counts new; or a refusal's number, and the counts as lent
abbrev pub reported : Result (List Counts) Refusal → List ℕ → Told
reported (Ok rows) counts = told (pos 0) (put_counts counts rows)
reported (Err r) counts = told (pos (refusal_number r)) counts

-- -1 where a slice is too short; else what the trial reports
unfoldable pub trial_call : ℤ → ℤ → ℤ → ℤ → ℕ → ℕ → ℕ → List ℤ → List ℕ → Told
trial_call khz nb seed q n good bad seeds counts =
    cond (short_trial (length seeds) (length counts)) (told (negsuc 0) counts)
    (reported (trial_of khz nb seed q n (record { leave_good = good; leave_bad = bad }) (take 16 seeds)) counts)
