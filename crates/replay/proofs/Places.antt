-- Where a line's numbers have places, they lie in the row and in the slice.
use Prim.Native.Nat.{ℕ, ◌+◌, ◌-◌, ◌≤◌}
use mathlib.Core.Path.{◌≡◌, refl, ap}
use mathlib.Core.Bool.{Bool, true, false, cond}
use native.Mathlib.Omega.{arith}
use borrow.Author.Tests.{ltb-false, leb-true}
use lib.Dec.{ltb, leb}
use Rattle.replay.specs.Put.{room}

-- a test that says false where t holds did not hold
past : (t b : Bool) → cond t false b ≡ true → (t ≡ false) × (b ≡ true)
past true b e = let z : ◌≡◌ {A = ℕ} 0 1 = ap (λ (t : Bool). cond t 1 0) e in absurd (omega arith)
past false b e = (refl, e)

pub fits : (n at count : ℕ) → room n at count ≡ true → (2 ≤ count) × (count ≤ 64) × (at + (count - 2) ≤ n)
unfolding room
fits n at count e =
    let a = past (ltb count 2) _ e in
    let b = past (ltb 64 count) _ a.1 in
    let d = past (ltb n at) (leb (count - 2) (n - at)) b.1 in
    let x = ltb-false count 2 a.0 in
    let y = ltb-false 64 count b.0 in
    let z = ltb-false n at d.0 in
    let w = leb-true (count - 2) (n - at) d.1 in
    (omega arith, omega arith, omega arith)
