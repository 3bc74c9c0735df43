-- Document 02, Note 11: "k draws in a leap equal k single ones, leaps add, and every leap has one that undoes it, all modulo 2^32".
use Rattle.std.specs.Prelude.{ℕ, ◌+◌, ◌%◌, ◌^◌, ◌≡◌, ℤ}
use Rattle.std.specs.Int.{w32}
use Rattle.std.proofs.Common.{SFits}
use Rattle.generator.specs.Draws.{drawn}
use Rattle.generator.specs.Leaps.{landed, joined, no_draw, leap_of, undoing}

-- from every number of 32 bits a leap of k draws lands where k single ones do
abbrev pub LeapDraws : Type 0
LeapDraws = (k : ℕ) (x : ℤ) → SFits w32 x → landed (leap_of k) x ≡ drawn x k

-- two leaps are the leap of as many draws as both, and so are the draws themselves
abbrev pub LeapsAdd : Type 0
LeapsAdd = (m n : ℕ) → (joined (leap_of m) (leap_of n) ≡ leap_of (m + n)) × ((x : ℤ) → drawn (drawn x m) n ≡ drawn x (m + n))

-- a leap and the one that undoes it are none, in either order, and the draws lead back to where they began
abbrev pub LeapUndone : Type 0
LeapUndone =
    (k : ℕ)
    → (joined (leap_of k) (leap_of (undoing k)) ≡ no_draw)
    × (joined (leap_of (undoing k)) (leap_of k) ≡ no_draw)
    × ((x : ℤ) → SFits w32 x → drawn (drawn x k) (undoing k) ≡ x)

-- 2 ^ 32 draws are none
abbrev pub LeapPeriod : Type 0
LeapPeriod = (k : ℕ) → leap_of k ≡ leap_of (k % 2 ^ 32)
