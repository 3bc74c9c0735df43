use lib.Dec.{lit≤}
use Rattle.decoder.proofs.Tests.{small_rate}
use Rattle.decoder.proofs.size_row.Goals as goal

pub equals-requires-2 : goal.equals-requires-2
equals-requires-2 c = rw c.subfr_length.ensures (small_rate 5 _ (lit≤ tt))

pub equals-requires-3 : goal.equals-requires-3
equals-requires-3 c = rw c.ltp_mem_length.ensures (small_rate 20 _ (lit≤ tt))
