-- The gain of noise after a frame that was not voiced: its shift loses nothing.
use Prim.Native.Nat.{ℕ, ◌*◌, ◌^◌, ◌≤◌}
use mathlib.Core.Path.{◌≡◌, refl}
use mathlib.Core.Bool.{Bool, true, false}
use native.Mathlib.Omega.{arith}
use borrow.Author.Tests.{ltb-false}
use lib.Dec.{ltb}
use lib.IntN.{pos, ◌*ℤ◌}
use mir.Syntax.{w32}
use Rattle.word.specs.Int.{wrap32, min_ℤ, max_ℤ}
use Rattle.word.proofs.Words.{wrap_id}
use Rattle.word.proofs.Sizes.{abs-fits}

-- a number from 0 on, limited to low to high
pub limited : (low high n : ℕ) → low ≤ high → (m : ℕ) × (max_ℤ (pos low) (min_ℤ (pos high) (pos n)) ≡ pos m) × (low ≤ m) × (m ≤ high)
unfolding min_ℤ max_ℤ
limited low high n h = go (ltb high n) refl
  where
    inner : (m : ℕ) → m ≤ high → (b : Bool) → ltb m low ≡ b → (k : ℕ) × (max_ℤ (pos low) (pos m) ≡ pos k) × (low ≤ k) × (k ≤ high)
    inner m hm true e = (low, rw e, omega arith, h)
    inner m hm false e = (m, rw e, ltb-false m low e, hm)

    go : (b : Bool) → ltb high n ≡ b → (k : ℕ) × (max_ℤ (pos low) (min_ℤ (pos high) (pos n)) ≡ pos k) × (low ≤ k) × (k ≤ high)
    go true e = rw e (inner high (omega arith) (ltb high low) refl)
    go false e = rw e (inner n (ltb-false high n e) (ltb n low) refl)

pub limited-kept : (n : ℕ) → wrap32 (max_ℤ (pos (2 ^ 22)) (min_ℤ (pos (2 ^ 27)) (pos n)) *ℤ pos (2 ^ 3)) ≡ max_ℤ (pos (2 ^ 22)) (min_ℤ (pos (2 ^ 27)) (pos n)) *ℤ pos (2 ^ 3)
limited-kept n =
    let l = limited (2 ^ 22) (2 ^ 27) n (omega arith) in
    rw l.1 (wrap_id {w = w32} {z = pos (l.0 * 8)} (abs-fits (pos (l.0 * 8)) (omega (arith, l.3))))
