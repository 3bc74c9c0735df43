-- Document 02, Note 2: what another limit of a step's coefficient changes.
use Rattle.std.specs.Prelude.{ℕ, ◌≤◌, ◌≡◌, List, ℤ, Err}
use Rattle.stability.specs.Stability.{Stability, stability_by}
use Rattle.stability.specs.declared.Unstable.TheVariants.{Coefficient}

-- the answer is not a step's coefficient
abbrev pub Within : Stability → Type 0
Within s = (k : ℕ) → s ≡ Err (Coefficient k) → ⊥

-- of two limits, an answer under the lower that is not a step's coefficient is the higher's too
abbrev pub SameAnswer : Type 0
SameAnswer =
    (low high : ℕ) → low ≤ high → (e : ℤ) (a : List ℤ)
    → Within (stability_by low e a)
    → stability_by high e a ≡ stability_by low e a
