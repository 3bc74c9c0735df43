-- A line of an edition and coefficients: whole numbers of 16 bits, each with a minus sign or none, with blanks or commas between them.
use Rattle.std.specs.Prelude.{ℕ, min, ◌+◌, ◌-◌, ◌*◌, Bool, true, false, cond, ◌&&◌, ◌||◌, List, eqb, ltb, ℤ, pos, neg_ℤ, set, replicate, Option, Some, None, is_some, unwrap_or, Result, Ok, Err}
use Rattle.coefficients.specs.declared.Entry.{Entry}
use Rattle.coefficients.specs.declared.Bad.{Bad}

-- `count` numbers are read, and none is begun
unfoldable pub between : List ℤ → ℕ → Entry
between a count = record { a = a; count = count; negative = false; size = None }

unfoldable pub blank : Entry
blank = between (replicate 17 (pos 0)) 0

-- a space, a tab, a carriage return or a comma
unfoldable pub is_blank : ℕ → Bool
is_blank b = eqb b 32 || eqb b 9 || eqb b 13 || eqb b 44

unfoldable pub number : ℕ → Bool → ℤ
number size negative = cond negative (neg_ℤ (pos size)) (pos size)

-- the number that is being read, of this size, is one of the first 17, and of 16 bits
unfoldable pub fits : Entry → ℕ → Bool
fits e size = ltb e.count 17 && ltb size (cond e.negative 32769 32768)

unfoldable pub stored : Entry → ℕ → Entry
stored e size = between (set e.a e.count (number size e.negative)) (e.count + 1)

-- the line is bad
abbrev pub bad : Result Entry Bad
bad = Err (record {})

-- what the end of a number leaves, of its size
unfoldable pub size_ended : Entry → Option ℕ → Result Entry Bad
size_ended e (Some size) = cond (fits e size) (Ok (stored e size)) bad
size_ended e None = cond e.negative bad (Ok e)

-- a number ends; a minus sign with no digit behind it is bad
unfoldable pub ended : Entry → Result Entry Bad
ended e = size_ended e e.size

-- a minus sign begins a number
unfoldable pub minus : Entry → Result Entry Bad
minus e =
    cond (is_some e.size || e.negative) bad
    (Ok (record { a = e.a; count = e.count; negative = true; size = e.size }))

-- a digit d goes on with a number; a size above 40,000 fits no more, whatever follows
unfoldable pub digit : Entry → ℕ → Entry
digit e d =
    record { a = e.a; count = e.count; negative = e.negative; size = Some (min (unwrap_or e.size 0) 40000 * 10 + d) }

-- a byte more: a blank, a minus sign, 45, a digit, 48 to 57, or any other, which is bad
unfoldable pub fed : Entry → ℕ → Result Entry Bad
fed e b =
    cond (is_blank b) (ended e)
    (cond (eqb b 45) (minus e) (cond (ltb b 48) bad (cond (ltb 57 b) bad (Ok (digit e (b - 48))))))
