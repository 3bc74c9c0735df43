-- No count of the first i frames passes i.
use Prim.Native.Nat.{ℕ, zero, suc, ◌≤◌}
use mathlib.Core.Bool.{Bool, true, false, cond}
use native.Mathlib.Omega.{arith}
use lib.IntN.{ℤ}
use Rattle.listener.specs.declared.Link.{Link}
use Rattle.listener.specs.Link.{good_at}
use Rattle.listener.specs.Heard.{Heard, losses_at, heard_by, count_to}

one_more : (b : Bool) (n i : ℕ) → n ≤ i → cond b 0 (suc n) ≤ suc i
one_more true n i h = omega arith
one_more false n i h = omega arith

pub losses_le : (k : Link) (seed : ℤ) (i : ℕ) → losses_at k seed i ≤ i
unfolding losses_at
losses_le k seed zero = omega arith
losses_le k seed (suc i) = one_more (good_at k seed i) (losses_at k seed i) i (losses_le k seed i)

one_or_none : (b : Bool) → cond b 1 0 ≤ 1
one_or_none true = omega arith
one_or_none false = omega arith

pub count_le : (h : Heard) (q : ℕ) (k : Link) (seed : ℤ) (i : ℕ) → count_to h q k seed i ≤ i
unfolding count_to
count_le h q k seed zero = omega arith
count_le h q k seed (suc i) =
    let a = count_le h q k seed i in
    let b = one_or_none (heard_by h q (good_at k seed i) (losses_at k seed i)) in
    omega (arith, a, b)
