use mir.Facts.{to_z-of_z}
use Rattle.le.specs.Bytes.{with_bytes}
use Rattle.load_stream.specs.Stream.{header_of}
use Rattle.load_stream.proofs.header_of.Goals as goal

pub returns : goal.returns
unfolding header_of with_bytes
returns c =
    rw (c.put.ensures, c.low_byte-2.ensures, c.low_byte.ensures, c.put_bytes.ensures, to_z-of_z c.ranges.rate, to_z-of_z c.ranges.subframes, to_z-of_z c.ranges.n)
