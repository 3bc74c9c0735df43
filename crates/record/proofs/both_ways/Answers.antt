use Rattle.record.proofs.Ways.{written_is_read, read_is_written}
use Rattle.record.proofs.both_ways.Goals as goal

pub returns : goal.returns
returns c = (written_is_read, read_is_written)
