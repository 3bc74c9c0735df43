-- The table of cosines (tables.rs, SILK_LSF_COS_TAB_FIX_Q12).
use Rattle.std.specs.Prelude.{ℕ, ◌-◌, cond, List, [], ◌∷◌, map, ltb, ℤ, pos, neg_ℤ, get_or}

-- twice the cosines (Q12) of 65 angles from 0 to a quarter turn
unfoldable pub lsf_cos_half : List ℤ
lsf_cos_half =
    map pos (
    8192 ∷ 8190 ∷ 8182 ∷ 8170 ∷ 8152 ∷ 8130 ∷ 8104 ∷ 8072 ∷ 8034 ∷ 7994 ∷ 7946 ∷ 7896 ∷ 7840 ∷ 7778 ∷ 7714 ∷ 7644
    ∷ 7568 ∷ 7490 ∷ 7406 ∷ 7318 ∷ 7226 ∷ 7128 ∷ 7026 ∷ 6922 ∷ 6812 ∷ 6698 ∷ 6580 ∷ 6458 ∷ 6332 ∷ 6204 ∷ 6070 ∷ 5934
    ∷ 5792 ∷ 5648 ∷ 5502 ∷ 5352 ∷ 5198 ∷ 5040 ∷ 4880 ∷ 4718 ∷ 4552 ∷ 4382 ∷ 4212 ∷ 4038 ∷ 3862 ∷ 3684 ∷ 3502 ∷ 3320
    ∷ 3136 ∷ 2948 ∷ 2760 ∷ 2570 ∷ 2378 ∷ 2186 ∷ 1990 ∷ 1794 ∷ 1598 ∷ 1400 ∷ 1202 ∷ 1002 ∷ 802 ∷ 602 ∷ 402 ∷ 202
    ∷ 0 ∷ [])

-- entry i of 129, to half a turn: the one at 128 - i is minus the one at i
unfoldable pub lsf_cos : ℕ → ℤ
lsf_cos i = cond (ltb 64 i) (neg_ℤ (get_or lsf_cos_half (128 - i) (pos 0))) (get_or lsf_cos_half i (pos 0))
