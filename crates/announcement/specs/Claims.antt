-- Document 02, Note 6: when the check answers yes, and which lines the filter takes.
use Rattle.std.specs.Prelude.{ℕ, suc, ◌-◌, ◌≤◌, ◌<◌, ◌≡◌, true, ◌⊎◌, List, ℤ, pos, ◌+ℤ◌, get_or, length, ◌≤ℤ◌, Ok, Err}
use Rattle.edition.specs.Edition.{older, newer}
use Rattle.refusal.specs.declared.Refusal.{Refusal}
use Rattle.refusal.specs.declared.Refusal.TheVariants.{Line}
use Rattle.nlsf.specs.Filter.{nlsf2a_refusal}
use Rattle.announcement.specs.Rising.{rising_of}

-- of d lines the first is at least 3, each next one at least 3 above the last, and the last at most 32,765
pub record Rises (lines : List ℤ) (d : ℕ) : Type 0 where
  pub bottom : pos 3 ≤ℤ get_or lines 0 (pos 0)
  pub apart : (k : ℕ) → suc k < d → (get_or lines k (pos 0) +ℤ pos 3) ≤ℤ get_or lines (suc k) (pos 0)
  pub top : get_or lines (d - 1) (pos 0) ≤ℤ pos 32765

-- "answered yes exactly if that is so"
abbrev pub RisingExactly : Type 0
RisingExactly =
    (lines : List ℤ) (d : ℕ) → (d ≡ 10) ⊎ (d ≡ 16) → d ≤ length lines
    → ((r : Refusal) → rising_of lines d ≡ Err r → ⊥)
    × (rising_of lines d ≡ Ok true → Rises lines d)
    × (Rises lines d → rising_of lines d ≡ Ok true)

-- with n places for the coefficients and under any edition, the filter from lines does not refuse rising lines by row 9
abbrev pub RisingAccepted : Type 0
RisingAccepted =
    (n : ℕ) (lines : List ℤ) (d : ℕ) (e : ℤ) → rising_of lines d ≡ Ok true → nlsf2a_refusal n lines d e ≡ Err Line → ⊥

-- "The filter from lines must be promised for unordered vectors too": it takes every vector that has no negative line
abbrev pub AnyOrder : Type 0
AnyOrder =
    (n : ℕ) (lines : List ℤ) (d : ℕ) (e : ℤ) → (d ≡ 10) ⊎ (d ≡ 16) → d ≤ n → d ≤ length lines
    → ((k : ℕ) → k < d → pos 0 ≤ℤ get_or lines k (pos 0))
    → (e ≡ older) ⊎ (e ≡ newer)
    → nlsf2a_refusal n lines d e ≡ Ok tt
