-- A line's numbers stored in a slice.
use Rattle.std.specs.Prelude.{ℕ, ◌-◌, ◌^◌, Bool, false, cond, List, leb, ltb, ℤ, pos, length, get_or, take, drop}
use Rattle.word.specs.Int.{wrap16, mod_ℤ}
use Rattle.word.specs.Tabulate.{tabulate}
use Rattle.sigproc.specs.Place.{put_at}

-- a line's numbers after its first two, of which a row has 62 at most, have places in a slice of n from `at` on
unfoldable pub room : ℕ → ℕ → ℕ → Bool
room n at count =
    cond (ltb count 2) false (cond (ltb 64 count) false (cond (ltb n at) false (leb (count - 2) (n - at))))

-- a row's numbers in 16 bits
unfoldable pub shorts : List ℤ → List ℤ
shorts row = tabulate 64 (λ i. wrap16 (get_or row i (pos 0)))

-- `to` with the numbers in their places, where there is room
unfoldable pub put : {A : Type 0} → List A → List A → ℤ → ℕ → List A
put to row at count =
    cond (room (length to) (mod_ℤ at (2 ^ 32)) count) (put_at to (mod_ℤ at (2 ^ 32)) (take (count - 2) (drop 2 row))) to
