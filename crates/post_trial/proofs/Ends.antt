-- A call's ends.
use Prim.Native.Nat.{ℕ, ◌≤◌}
use mathlib.Core.Path.{◌≡◌, refl}
use mathlib.Core.Bool.{true, false}
use mathlib.Core.List.{List}
use borrow.Author.Tests.{ltb-false}
use lib.Dec.{ltb}
use lib.IntN.{ℤ, pos, negsuc}
use lib.ListN.{length, take}
use Rattle.std.specs.Prelude.{Ok, Err}
use Rattle.refusal.specs.Refusals.{refusal_number}
use Rattle.refusal.specs.declared.Refusal.{Refusal}
use Rattle.listener.specs.declared.Counts.{Counts}
use Rattle.trial.specs.Trial.{trial_of}
use Rattle.post_trial.specs.Call.{told, short_trial, put_counts, trial_call}
use Rattle.word.proofs.Rows.{neither}

pub long : (s n : ℕ) → short_trial s n ≡ false → (16 ≤ s) × (48 ≤ n)
unfolding short_trial
long s n e =
    let a = neither (ltb s 16) (ltb n 48) e in
    (ltb-false s 16 a.0, ltb-false n 48 a.1)

module _ (khz nb seed q : ℤ) (n good bad : ℕ) (seeds : List ℤ) (counts : List ℕ) where
  pub too_short : short_trial (length seeds) (length counts) ≡ true → told (negsuc 0) counts ≡ trial_call khz nb seed q n good bad seeds counts
  unfolding trial_call
  too_short e = rw e refl

  module _ (s : short_trial (length seeds) (length counts) ≡ false) where
    pub heard : (rows : List Counts) → trial_of khz nb seed q n (record { leave_good = good; leave_bad = bad }) (take 16 seeds) ≡ Ok rows
        → told (pos 0) (put_counts counts rows) ≡ trial_call khz nb seed q n good bad seeds counts
    unfolding trial_call
    heard rows e = rw (s, e) refl

    pub refused : (r : Refusal) → trial_of khz nb seed q n (record { leave_good = good; leave_bad = bad }) (take 16 seeds) ≡ Err r
        → told (pos (refusal_number r)) counts ≡ trial_call khz nb seed q n good bad seeds counts
    unfolding trial_call
    refused r e = rw (s, e) refl
