-- A stream's records, one behind the other (docs/STREAMS.md).
use Rattle.std.specs.Prelude.{ℕ, ◌+◌, ◌-◌, ◌*◌, ◌≡◌, ⊤, cond, List, [], ◌∷◌, ◌++◌, eqb, ltb, pos, length, take, drop, get_or, replicate, Option, Some, None, Result, Ok, Err, IfOk}
use Rattle.shape.specs.Shape.{shape, frame_length}
use Rattle.stream.specs.declared.Head.{Head}
use Rattle.stream.specs.declared.Unread.{Unread}
use Rattle.stream.specs.declared.Unread.TheVariants.{Cut, Kind}

-- the bytes of a frame's samples
unfoldable pub sample_bytes : Head → ℕ
sample_bytes h = 2 * frame_length (shape (pos h.rate) (pos h.subframes))

-- how many bytes of a kind's record stand before its samples, of n bytes: a received frame has as many bytes of pulses behind 177 others
unfoldable pub front : ℕ → ℕ → ℕ
front kind n = cond (eqb kind 1) (177 + n) 1

-- record i at the front of xs: what stands before its samples, with zeros behind, as 817 bytes
unfoldable pub record_in : ℕ → ℕ → List ℕ → Result (List ℕ) Unread
record_in i n [] = Err (Cut i)
record_in i n (kind ∷ xs) =
    cond (ltb 1 kind) (Err (Kind i kind))
    (cond (ltb (length (kind ∷ xs)) (front kind n + n)) (Err (Cut i))
    (Ok (take (front kind n) (kind ∷ xs) ++ replicate (817 - front kind n) 0)))

-- record i was taken from a reader, where its bytes are known
abbrev pub Taken : Option (List ℕ) → Option (List ℕ) → ℕ → ℕ → Result (List ℕ) Unread → Type 0
Taken None new i n r = ⊤
Taken (Some xs) new i n r = (r ≡ record_in i n xs) × IfOk r (λ b. new ≡ Some (drop (front (get_or xs 0 0) n + n) xs))
