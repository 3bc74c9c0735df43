-- Document 02, Note 6: "a check that its vector is rising".
use Rattle.std.specs.Prelude.{ℕ, zero, suc, Bool, true, cond, not, ◌&&◌, ◌||◌, List, ltb, eqb, ℤ, pos, ◌+ℤ◌, get_or, length, Result, Ok, Err}
use Rattle.std.specs.Int.Signed.{le_z}
use Rattle.refusal.specs.declared.Refusal.{Refusal}
use Rattle.refusal.specs.declared.Refusal.TheVariants.{Place}

-- what lies below line k: the line before it, or 0
unfoldable pub below : List ℤ → ℕ → ℤ
below lines zero = pos 0
below lines (suc k) = get_or lines k (pos 0)

-- each of the first n lines lies at least 3 above what lies below it
unfoldable pub apart_to : List ℤ → ℕ → Bool
apart_to lines zero = true
apart_to lines (suc n) = apart_to lines n && le_z (below lines n +ℤ pos 3) (get_or lines n (pos 0))

-- d lines rise: at least 3 between neighbours, 3 at the bottom and 3 below 32,768 at the top
unfoldable pub rising : List ℤ → ℕ → Bool
rising lines d = apart_to lines d && le_z (below lines d +ℤ pos 3) (pos 32768)

-- row 17: an order d not 10 or 16, or a slice of n lines shorter than it
abbrev pub rising_refused : ℕ → ℕ → Bool
rising_refused n d = not (eqb d 10) && not (eqb d 16) || ltb n d

-- the check as a call
unfoldable pub rising_of : List ℤ → ℕ → Result Bool Refusal
rising_of lines d = cond (rising_refused (length lines) d) (Err Place) (Ok (rising lines d))
