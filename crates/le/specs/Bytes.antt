-- Numbers as bytes, the lowest byte first, and signed ones in two's complement.
use Rattle.std.specs.Prelude.{ℕ, zero, suc, ◌+◌, ◌*◌, ◌/◌, ◌<◌, Bool, true, ◌&&◌, List, [], ◌∷◌, ◌++◌, eqb, ℤ, pos, get_or, take, drop, length, map}
use Rattle.std.specs.List.{flat_map, range_with_len}
use Rattle.std.specs.Int.{Width}
use mir.Val.{bits}
use Rattle.word.specs.Int.{floor_div, mod_ℤ, wrap}
use Rattle.word.specs.Tabulate.{tabulate}

-- every number of a list is a byte
abbrev pub Bytes : List ℕ → Type 0
Bytes b = (i : ℕ) → get_or b i 0 < 256

-- the lowest n bytes of a number
abbrev pub bytes_of : ℕ → ℤ → List ℕ
bytes_of zero z = []
bytes_of (suc n) z = mod_ℤ z 256 ∷ bytes_of n (floor_div z 256)

-- the number that bytes are
unfoldable pub number_of : List ℕ → ℕ
number_of [] = 0
number_of (x ∷ xs) = x + 256 * number_of xs

-- the n bytes from place `at` on, as an unsigned number
unfoldable pub unsigned_at : ℕ → List ℕ → ℕ → ℕ
unsigned_at n b at = number_of (take n (drop at b))

-- the bytes of a word
abbrev pub bytes_in : Width → ℕ
bytes_in w = bits w / 8

-- the word of a width from place `at` on, as a signed number
unfoldable pub signed_at : Width → List ℕ → ℕ → ℤ
signed_at w b at = wrap w (pos (unsigned_at (bytes_in w) b at))

-- n words, each of `size` bytes, from place `at` on, by what stands at a place
abbrev pub words_by : {A : Type 0} → (List ℕ → ℕ → A) → ℕ → List ℕ → ℕ → ℕ → List A
words_by word_at size b at n = map (λ i. word_at b (at + size * i)) (range_with_len 0 n)

-- all words as bytes, one behind the other, by the bytes of each
abbrev pub packed_by : {A : Type 0} → (A → List ℕ) → List A → List ℕ
packed_by bytes xs = flat_map bytes xs

-- n words of a width
abbrev pub words_at : Width → List ℕ → ℕ → ℕ → List ℤ
words_at w b at n = tabulate n (λ i. signed_at w b (at + bytes_in w * i))

-- the first n numbers of a list, each as a word of a width
unfoldable pub packed : Width → List ℤ → ℕ → List ℕ
packed w xs zero = []
packed w xs (suc i) = packed w xs i ++ bytes_of (bytes_in w) (get_or xs i (pos 0))

-- lists of bytes, one behind the other
unfoldable pub joined : List (List ℕ) → List ℕ
joined [] = []
joined (b ∷ bs) = b ++ joined bs

-- d with the bytes from place `at` on replaced by all of b
unfoldable pub with_bytes : List ℕ → ℕ → List ℕ → List ℕ
with_bytes d at b = take at d ++ b ++ drop (at + length b) d

-- the first n bytes of two lists are the same
unfoldable pub same : List ℕ → List ℕ → ℕ → Bool
same a b zero = true
same a b (suc i) = same a b i && eqb (get_or a i 0) (get_or b i 0)
