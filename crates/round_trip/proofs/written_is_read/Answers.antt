use Rattle.round_trip.proofs.Writes.{in_order, writer_takes}
use Rattle.round_trip.proofs.Reading.{written_is_read}
use Rattle.round_trip.proofs.written_is_read.Goals as goal

pub returns : goal.returns
returns c = (in_order, written_is_read, writer_takes)
