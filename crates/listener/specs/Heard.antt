-- What becomes of the frames behind a link, by the row of losses alone. Crate `trial` proves that the calls of a post have these counts.
use Rattle.std.specs.Prelude.{ℕ, zero, suc, ◌+◌, Bool, not, cond, ◌&&◌, List, map, ltb, leb, ℤ}
use Rattle.listener.specs.declared.Link.{Link}
use Rattle.listener.specs.declared.Counts.{Counts}
use Rattle.listener.specs.Link.{good_at}

pub data Heard : Type 0 where
  as_received as_concealed as_squelched : Heard

-- the losses in a row before frame i
unfoldable pub losses_at : Link → ℤ → ℕ → ℕ
losses_at k seed zero = 0
losses_at k seed (suc i) = cond (good_at k seed i) 0 (suc (losses_at k seed i))

-- one loss more makes n losses Q or more; Q of 0 means never
unfoldable pub silent : ℕ → ℕ → Bool
silent q n = ltb 0 q && leb q (suc n)

-- a frame that comes after n losses in a row
unfoldable pub heard_by : Heard → ℕ → Bool → ℕ → Bool
heard_by as_received q good n = good
heard_by as_concealed q good n = not good && not (silent q n)
heard_by as_squelched q good n = not good && silent q n

-- how many of the first n frames are heard so
unfoldable pub count_to : Heard → ℕ → Link → ℤ → ℕ → ℕ
count_to h q k seed zero = 0
count_to h q k seed (suc i) = count_to h q k seed i + cond (heard_by h q (good_at k seed i) (losses_at k seed i)) 1 0

-- a count for each way
abbrev pub each : (Heard → ℕ) → Counts
each count = record { received = count as_received; concealed = count as_concealed; squelched = count as_squelched }

unfoldable pub counts_of : ℕ → Link → ℤ → ℕ → Counts
counts_of q k seed n = each (λ h. count_to h q k seed n)

-- each listener has a seed
unfoldable pub rows_of : ℕ → Link → ℕ → List ℤ → List Counts
rows_of q k n seeds = map (λ x. counts_of q k x n) seeds
