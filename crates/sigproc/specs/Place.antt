-- Lists stored into a place of another, and the history of played samples (decode_frame.rs, update_out_buf).
use Rattle.std.specs.Prelude.{ℕ, ◌+◌, ◌-◌, List, ◌++◌, length, take, drop, ℤ}

-- d with the elements from place `at` on replaced by all of s
unfoldable pub put_at : {A : Type 0} → List A → ℕ → List A → List A
put_at d at s = take at d ++ s ++ drop (at + length s) d

-- n places to the left, round the end
unfoldable pub rotate_left : ℕ → List ℤ → List ℤ
rotate_left n xs = drop n xs ++ take n xs

-- the buffer after a frame xq: rotated by its length, and the frame at the end of a history of mem samples
unfoldable pub update_out_buf : List ℤ → ℕ → List ℤ → List ℤ
update_out_buf ob mem xq = put_at (rotate_left (length xq) ob) (mem - length xq) xq
