-- Document 02, Note 10: where the editions' answers differ.
use Rattle.std.specs.Prelude.{ℕ, ◌≡◌, List, ℤ, Err}
use Rattle.edition.specs.Edition.{older, newer}
use Rattle.stability.specs.Stability.{Stability, stability}
use Rattle.stability.specs.declared.Unstable.TheVariants.{Overflow}

-- the answer is not a step beyond 32 bits
abbrev pub Fits : Stability → Type 0
Fits s = (k : ℕ) → s ≡ Err (Overflow k) → ⊥

-- if no step leaves 32 bits, both editions answer alike
abbrev pub EditionsAlike : Type 0
EditionsAlike = (a : List ℤ) → Fits (stability newer a) → stability older a ≡ stability newer a

-- no answer of the older edition is a step beyond 32 bits
abbrev pub OlderFits : Type 0
OlderFits = (a : List ℤ) → Fits (stability older a)
