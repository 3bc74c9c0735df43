use Rattle.std.proofs.Common.{◌≡◌, length, take}
use Rattle.le.specs.Bytes.{packed_by, with_bytes}
use Rattle.le.proofs.put_words.Given as goal

abbrev pub invariant-loop-i : goal.invariant-loop-i
invariant-loop-i g l =
    record { size : length l.to ≡ length l.initial.to; stored : l.to ≡ with_bytes l.initial.to l.at (packed_by g.T.Word.bytes (take l.i l.numbers)) }
