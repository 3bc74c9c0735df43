-- The taps of a subframe (document 01, row 8).
use Rattle.std.specs.Prelude.{ℕ, zero, suc, ◌+◌, ◌*◌, Bool, true, ◌&&◌, List, ℤ, pos, negsuc, ◌+ℤ◌, get_or}
use Rattle.decoder.specs.Ranges.{within}

-- the five taps of subframe k, added up
unfoldable pub tap_sum : List ℤ → ℕ → ℤ
tap_sum taps k =
    get_or taps (5 * k) (pos 0) +ℤ get_or taps (5 * k + 1) (pos 0) +ℤ get_or taps (5 * k + 2) (pos 0)
    +ℤ get_or taps (5 * k + 3) (pos 0)
    +ℤ get_or taps (5 * k + 4) (pos 0)

-- the sums of the first n subframes lie in -32,768 to 32,767
unfoldable pub taps_fit : List ℤ → ℕ → Bool
taps_fit taps zero = true
taps_fit taps (suc n) = taps_fit taps n && within (negsuc 32767) (pos 32767) (tap_sum taps n)
