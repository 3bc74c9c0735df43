use lib.Dec.{lit≤}
use Rattle.decoder.proofs.Tests.{small_rate}
use Rattle.decoder.proofs.with_shape.Goals as goal

pub length_number-subfr_length-requires : goal.length_number-subfr_length-requires
length_number-subfr_length-requires c = rw c.subfr_length.ensures (small_rate 5 _ (lit≤ tt))

pub length_number-ltp_mem_length-requires : goal.length_number-ltp_mem_length-requires
length_number-ltp_mem_length-requires c = rw c.ltp_mem_length.ensures (small_rate 20 _ (lit≤ tt))
