use lib.Dec.{lit≤}
use Rattle.decoder.proofs.Tests.{small_rate}
use Rattle.decoder.proofs.subframes_held.Goals as goal

pub equals-requires : goal.equals-requires
equals-requires c = rw c.subfr_length.ensures (small_rate 5 _ (lit≤ tt))
