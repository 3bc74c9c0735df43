-- The numbers of a line of text.
use Rattle.std.specs.Prelude.{ℕ, ◌+◌, ◌-◌, Bool, false, cond, List, eqb, ltb, ℤ, pos, neg_ℤ, ◌+ℤ◌, ◌*ℤ◌, set, replicate, Option, Some, None, unwrap_or}
use Rattle.std.specs.List.{fold}
use Rattle.word.specs.Int.{wrap32}
use Rattle.line.specs.declared.Line.{Line}

-- a row of `count` numbers, before its next one; negative: a minus sign was the last byte
unfoldable pub begun : List ℤ → ℕ → Bool → Line
begun row count negative = record { row = row; count = count; value = None; negative = negative }

unfoldable pub blank : Line
blank = begun (replicate 64 (pos 0)) 0 false

unfoldable pub signed : ℤ → Bool → ℤ
signed value negative = cond negative (wrap32 (neg_ℤ value)) value

-- a number goes into the row: the first 64 do
unfoldable pub stored : Line → ℤ → Bool → Line
stored l value negative =
    cond (ltb l.count 64) (begun (set l.row l.count (signed value l.negative)) (l.count + 1) negative)
    (begun l.row l.count negative)

-- what a byte that is no digit leaves, of the number that is being read
unfoldable pub value_ended : Line → Bool → Option ℤ → Line
value_ended l negative (Some value) = stored l value negative
value_ended l negative None = begun l.row l.count negative

unfoldable pub ended : Line → Bool → Line
ended l negative = value_ended l negative l.value

unfoldable pub digit : Line → ℕ → Line
digit l d =
    record {
      row = l.row;
      count = l.count;
      value = Some (wrap32 (wrap32 (unwrap_or l.value (pos 0) *ℤ pos 10) +ℤ pos d));
      negative = l.negative;
    }

-- a digit, 48 to 57, goes on with a number; every other byte ends one, and a minus sign, 45, makes the next one negative
unfoldable pub fed : Line → ℕ → Line
fed l b = cond (ltb b 48) (ended l (eqb b 45)) (cond (ltb 57 b) (ended l false) (digit l (b - 48)))

-- a line's bytes, one after another
unfoldable pub line_of : List ℕ → Line
line_of bytes = fold fed blank bytes
