-- Document 01, traps: "Negative taps come to rest at −20 to −1, not 0".
use Rattle.std.specs.Prelude.{ℕ, ◌<◌, ◌≤◌, ◌≡◌, false, ℤ, pos, neg_ℤ, get_or}
use Rattle.shape.specs.Shape.{Shape}
use Rattle.decoder.specs.declared.SilkPLCState.{SilkPLCState}
use Rattle.decoder.specs.declared.SilkDecoderState.{SilkDecoderState}
use Rattle.plc.specs.Conceal.{first, held_after}

-- the middle tap (Q14) that concealment holds
abbrev pub middle_tap : SilkPLCState → ℤ
middle_tap h = get_or h.ltp_coef_q14 2 (pos 0)

-- a loss that is not the first in a row leaves a middle tap of −20 to −1 as it is, and moves a lower one nearer to −20 and not past it
abbrev pub TapsRest : Type 0
TapsRest =
    (p : Shape) (s : SilkDecoderState) (h : SilkPLCState) (k : ℕ)
    → first s.loss_cnt ≡ false
    → 0 < p.subframes
    → 0 < k
    → k ≤ 32768
    → middle_tap h ≡ neg_ℤ (pos k)
    → (k ≤ 20 → middle_tap (held_after p s h) ≡ neg_ℤ (pos k))
    × (20 < k → (j : ℕ) × (middle_tap (held_after p s h) ≡ neg_ℤ (pos j)) × (20 ≤ j) × (j < k))
