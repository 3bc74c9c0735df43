-- Document 02, Note 7: "no two answers share a sentence".
use Rattle.std.specs.Prelude.{◌≡◌}
use Rattle.stability.specs.Stability.{Stability}
use Rattle.sentence.specs.Sentence.{sentence, sentence_of}

-- over every answer: two with the same sentence are the same, and so are two with the same 64 bytes
abbrev pub NoTwo : Type 0
NoTwo =
    ((s t : Stability) → sentence s ≡ sentence t → s ≡ t)
    × ((s t : Stability) → (sentence_of s).letters ≡ (sentence_of t).letters → s ≡ t)
