-- What post_rising writes, and what it says of post_filter.
use Prim.Native.Nat.{ℕ, ◌≤◌}
use mathlib.Core.Path.{◌≡◌, refl, ap}
use mathlib.Core.Bool.{Bool, true, false, cond}
use mathlib.Core.Logic.{◌⊎◌}
use mathlib.Core.List.{List, ◌∷◌}
use native.Mathlib.Omega.{arith}
use borrow.Author.Tests.{le-ltb}
use lib.IntN.{ℤ, pos, nat_abs}
use lib.ListN.{length, drop}
use Rattle.announcement.specs.Rising.{rising}
use Rattle.announcement.proofs.Rises.{answered, exactly}
use Rattle.announcement.proofs.Taken.{never_nine}
use Rattle.post_filters.specs.Calls.{called, given, filter_call, rising_call}
use Rattle.post_filters.specs.Claims.{RisingTold}

call : (lines lent : List ℤ) (d : ℕ) → (d ≡ 10) ⊎ (d ≡ 16) → d ≤ length lines → 1 ≤ length lent → rising_call lines d lent ≡ record { answer = pos 0; slice = cond (rising lines d) (pos 1) (pos 0) ∷ drop 1 lent }
unfolding rising_call called given
call lines lent d o h k = rw (answered lines d o h, le-ltb (length lent) 1 k) refl

one-is : (b : Bool) → cond b (pos 1) (pos 0) ≡ pos 1 → b ≡ true
one-is true e = refl
one-is false e = let z : ◌≡◌ {A = ℕ} 0 1 = ap nat_abs e in absurd (omega arith)

pub rising_told : RisingTold
unfolding filter_call
rising_told lines lent d o h k =
    let x = exactly lines d o in
    rw (call lines lent d o h k) (
      refl,
      λ e. x.0 (one-is (rising lines d) e),
      λ r. ap (λ (b : Bool). cond b (pos 1) (pos 0)) (x.1 r),
      λ e out v n. never_nine (length out) lines d v (one-is (rising lines d) e) (ap nat_abs n),
    )
