-- A stream's first 16 bytes.
use Rattle.std.specs.Prelude.{ℕ, ◌+◌, ◌*◌, ◌≡◌, ⊤, Bool, cond, ◌&&◌, List, eqb, ltb, pos, length, take, drop, get_or, Option, Some, None, Result, Ok, Err, codes}
use Rattle.shape.specs.Shape.{shape, frame_length, is_rate, is_count}
use Rattle.le.specs.Bytes.{unsigned_at, same}
use Rattle.stream.specs.declared.Head.{Head}
use Rattle.stream.specs.declared.Unplayed.{Unplayed}
use Rattle.stream.specs.declared.Unplayed.TheVariants.{Cut, Foreign, Rate, Subframes, Long}

-- the bytes SILKVEC1, and two zeros behind rate and subframes
unfoldable pub is_stream : List ℕ → Bool
is_stream h = same h (codes "SILKVEC1") 8 && eqb (unsigned_at 2 h 10) 0

-- the samples that all records play
unfoldable pub samples_of : List ℕ → ℕ
samples_of h = unsigned_at 4 h 12 * frame_length (shape (pos (get_or h 8 0)) (pos (get_or h 9 0)))

-- what a header of `got` bytes says; a WAV file's lengths have 32 bits
unfoldable pub opened_of : List ℕ → ℕ → Result Head Unplayed
opened_of h got =
    cond (ltb got 16) (Err Cut)
    (cond (is_stream h)
    (cond (is_rate (pos (get_or h 8 0)))
    (cond (is_count (pos (get_or h 9 0)))
    (cond (ltb (36 + 2 * samples_of h) 4294967296)
    (Ok (record { rate = get_or h 8 0; subframes = get_or h 9 0; records = unsigned_at 4 h 12; samples = samples_of h }))
    (Err Long))
    (Err (Subframes (get_or h 9 0))))
    (Err (Rate (get_or h 8 0))))
    (Err Foreign))

-- a header was taken from a reader, where its bytes are known: the first 16, or all of fewer
abbrev pub Opened : Option (List ℕ) → Option (List ℕ) → Result Head Unplayed → Type 0
Opened None new r = ⊤
Opened (Some xs) new r = (r ≡ opened_of (take 16 xs) (length (take 16 xs))) × (new ≡ Some (drop 16 xs))
