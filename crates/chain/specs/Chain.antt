-- Document 02, Note 9: records of 1,024 bytes, numbered from 0, and the chain through them.
use Rattle.std.specs.Prelude.{ℕ, zero, suc, ◌-◌, ◌*◌, ◌/◌, ◌%◌, Bool, true, false, cond, ◌&&◌, ◌||◌, List, [], ◌∷◌, ◌++◌, eqb, ltb, leb, length, replicate, Option, Some, None}
use Rattle.le.specs.Bytes.{unsigned_at}
use Rattle.chain.specs.declared.Route.{Route}

-- a length is that of 1 to 60 whole records
unfoldable pub is_whole : ℕ → Bool
is_whole n = eqb (n % 1024) 0 && ltb 0 (n / 1024) && leb (n / 1024) 60

unfoldable pub records_in : List ℕ → ℕ
records_in b = length b / 1024

-- bytes 0 and 1 of record i: the next record's number
unfoldable pub next_of : List ℕ → ℕ → ℕ
next_of b i = unsigned_at 2 b (1024 * i)

-- k is one of the numbers
unfoldable pub is_among : ℕ → List ℕ → Bool
is_among k [] = false
is_among k (x ∷ xs) = eqb k x || is_among k xs

-- a chain from record i on: all its frames' records, in order, or none where it is broken
-- `met` are the frames' records so far, and `left` counts the records that are neither record 0 nor among them
-- a next number of 0 ends the chain, and one past the end or met before breaks it (with none left it is one or the other)
unfoldable pub chain_from : List ℕ → ℕ → List ℕ → ℕ → Option (List ℕ)
chain_from b zero met i = cond (eqb (next_of b i) 0) (Some met) None
chain_from b (suc left) met i =
    let k = next_of b i in
    cond (eqb k 0) (Some met)
    (cond (leb (records_in b) k || is_among k met) None
    (chain_from b left (met ++ k ∷ []) k))

unfoldable pub chain_of : List ℕ → Option (List ℕ)
chain_of b = chain_from b (records_in b - 1) [] 0

unfoldable pub is_broken : Option (List ℕ) → Bool
is_broken (Some ks) = false
is_broken None = true

-- the frames' records; none where the chain is broken
unfoldable pub on_chain : Option (List ℕ) → List ℕ
on_chain (Some ks) = ks
on_chain None = []

-- 60 places: numbers, and zeros behind them
unfoldable pub padded : List ℕ → List ℕ
padded ks = ks ++ replicate (60 - length ks) 0

-- the records on a chain, as the code has them
abbrev pub route : List ℕ → Route
route ks = record { frames = length ks; records = padded ks }

-- a chain as the code has it
abbrev pub route_of : Option (List ℕ) → Option Route
route_of (Some ks) = Some (route ks)
route_of None = None
