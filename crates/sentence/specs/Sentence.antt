-- Document 02, Note 7: an answer of the stability test as "a sentence of fixed words and at most one number".
use Rattle.std.specs.Prelude.{ℕ, zero, suc, ◌+◌, ◌-◌, ◌/◌, ◌%◌, cond, List, [], ◌∷◌, ◌++◌, ltb, ℤ, pos, negsuc, length, replicate, take, drop, Ok, Err, codes}
use Prim.Native.String.{String}
use Rattle.stability.specs.Stability.{Stability}
use Rattle.stability.specs.declared.Unstable.TheVariants.{Sum, Coefficient, Gain, Overflow}
use Rattle.sentence.specs.declared.Sentence.{Sentence}

-- the decimal digits of n in ASCII, at most f of them: those of its tenth part, then its last one
unfoldable pub digits : ℕ → ℕ → List ℕ
digits zero n = []
digits (suc f) n = cond (ltb n 10) ((48 + n) ∷ []) (digits f (n / 10) ++ (48 + n % 10) ∷ [])

-- of every n: the library's `decimal` has at most 64 digits, and NoTwo speaks of every answer
unfoldable pub decimal : ℕ → List ℕ
decimal n = digits (suc n) n

-- with a minus sign, 45, before a negative number
unfoldable pub signed : ℤ → List ℕ
signed (pos n) = decimal n
signed (negsuc n) = 45 ∷ decimal (suc n)

-- the words of an answer
unfoldable pub words : Stability → String
words (Ok g) = "stable, inverse gain "
words (Err Sum) = "unstable, sum too large"
words (Err (Coefficient k)) = "unstable, coefficient too large at step "
words (Err (Gain k)) = "unstable, gain too small at step "
words (Err (Overflow k)) = "unstable, overflow at step "

-- the number after them
unfoldable pub number : Stability → List ℕ
number (Ok g) = signed g
number (Err Sum) = []
number (Err (Coefficient k)) = decimal k
number (Err (Gain k)) = decimal k
number (Err (Overflow k)) = decimal k

unfoldable pub sentence : Stability → List ℕ
sentence s = codes (words s) ++ number s

-- bytes as the code has them: zeros behind them up to 64
unfoldable pub filled : List ℕ → Sentence
filled bs = record { letters = bs ++ replicate (64 - length bs) 0; len = length bs }

unfoldable pub sentence_of : Stability → Sentence
sentence_of s = filled (sentence s)

-- bytes put behind a sentence
unfoldable pub with : Sentence → List ℕ → Sentence
with s bs =
    record {
      letters = take s.len s.letters ++ bs ++ drop (s.len + length bs) s.letters;
      len = s.len + length bs;
    }
