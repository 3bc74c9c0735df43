-- What a full read took, where the reader's bytes are known.
use Rattle.std.specs.Prelude.{ℕ, ◌≡◌, ◌<◌, ◌≤◌, Bool, List, length, take, eqb, Option}
use Rattle.std.specs.Io.KnownBytes.{Consumes, IsAtEnd}

-- the reader's first n bytes stand in the buffer, and where it has room for more no byte is left
pub record Filled (old new : Option (List ℕ)) (n : ℕ) (buffer : List ℕ) : Type 0 where
  pub room : n ≤ length buffer
  pub taken : Consumes old new (take n buffer)
  pub all : n < length buffer → IsAtEnd new

-- whether what was read fills the buffer
abbrev pub Fills : Option (List ℕ) → Option (List ℕ) → Bool → List ℕ → Type 0
Fills old new whole buffer = (n : ℕ) × Filled old new n buffer × (whole ≡ eqb n (length buffer))
