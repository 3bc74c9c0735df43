-- Document 02, Note 9: what the records of a recording hold.
use Rattle.std.specs.Prelude.{ℕ, zero, suc, ◌+◌, ◌*◌, ◌≤◌, Bool, true, cond, ◌&&◌, List, [], ◌∷◌, map, eqb, ℤ, pos, get_or, drop, length, codes, Ok}
use Rattle.le.specs.Bytes.{same}
use Rattle.refusal.specs.First.{first_of, earlier}
use Rattle.refusal.specs.Refusals.{Judged}
use Rattle.shape.specs.Shape.{Shape}
use Rattle.judge.specs.Rows.{description_rows}
use Rattle.record.specs.Recorded.{Recorded, lost, received, recorded_in}
use Rattle.chain.specs.Chain.{chain_of, on_chain}

-- n bytes from place `at` on are zeros
unfoldable pub zeros : List ℕ → ℕ → ℕ → Bool
zeros b at zero = true
zeros b at (suc n) = zeros b at n && eqb (get_or b (at + n) 0) 0

-- record 0: YARD after its next number, rate, subframes, and zeros to the end
unfoldable pub is_head : List ℕ → Bool
is_head b = same (drop 2 b) (codes "YARD") 4 && zeros b 8 1016

abbrev pub rate_in : List ℕ → ℤ
rate_in b = pos (get_or b 6 0)

abbrev pub count_in : List ℕ → ℤ
count_in b = pos (get_or b 7 0)

-- a frame's record from its kind on: kind 1, 816 bytes and zeros to the end, or kind 0 and zeros to the end
unfoldable pub is_frame : List ℕ → ℕ → Bool
is_frame b i =
    let at = 1024 * i + 2 in
    cond (eqb (get_or b at 0) 1) (zeros b (at + 817) 205) (zeros b at 1022)

unfoldable pub are_frames : List ℕ → List ℕ → Bool
are_frames b [] = true
are_frames b (i ∷ is) = is_frame b i && are_frames b is

-- the frame of record i
unfoldable pub recorded_at : List ℕ → ℕ → Recorded
recorded_at b i = recorded_in (drop (1024 * i + 2) b)

-- the frames along the chain
unfoldable pub frames_in : List ℕ → List Recorded
frames_in b = map (recorded_at b) (on_chain (chain_of b))

-- rows 5 to 9 of a frame; a lost one meets none
unfoldable pub described : Shape → Recorded → Judged
described p lost = Ok tt
described p (received q c rows lines pulses) = first_of (description_rows p q c lines)

-- the first of rows 5 to 9, by number, that applies to one of the frames
unfoldable pub described_all : Shape → List Recorded → Judged
described_all p [] = Ok tt
described_all p (x ∷ xs) = earlier (described p x) (described_all p xs)

-- inner: the records lie within the bytes
abbrev pub Inside : List ℕ → List ℕ → Type 0
Inside b records = (k : ℕ) → 1024 * get_or records k 0 + 1024 ≤ length b
