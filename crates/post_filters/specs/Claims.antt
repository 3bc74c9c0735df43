-- Document 02, Note 6, for a program that links the library: what post_rising writes, and what it says of post_filter.
use Rattle.std.specs.Prelude.{ℕ, ◌≤◌, ◌≡◌, ◌⊎◌, List, ℤ, pos, length, get_or}
use Rattle.announcement.specs.Claims.{Rises}
use Rattle.post_filters.specs.Calls.{filter_call, rising_call}

-- the number that post_rising leaves in its slice
abbrev pub rise_in : List ℤ → ℕ → List ℤ → ℤ
rise_in lines d lent = get_or (rising_call lines d lent).slice 0 (pos 0)

-- for lines enough and a place for the answer, it answers 0 and leaves 1 exactly if the lines rise; then post_filter does not answer 9
abbrev pub RisingTold : Type 0
RisingTold =
    (lines lent : List ℤ) (d : ℕ) → (d ≡ 10) ⊎ (d ≡ 16) → d ≤ length lines → 1 ≤ length lent
    → ((rising_call lines d lent).answer ≡ pos 0)
    × (rise_in lines d lent ≡ pos 1 → Rises lines d)
    × (Rises lines d → rise_in lines d lent ≡ pos 1)
    × (rise_in lines d lent ≡ pos 1 → (out : List ℤ) (e : ℤ) → (filter_call out lines d e).answer ≡ pos 9 → ⊥)
