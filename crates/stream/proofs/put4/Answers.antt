use mathlib.Core.Path.{ap, ◌∙◌}
use lib.ListN.{take}
use Rattle.le.specs.Bytes.{with_bytes}
use Rattle.le.proofs.Numbers.{four_low}
use Rattle.stream.proofs.put4.Goals as goal

pub returns : goal.returns
unfolding with_bytes
returns c =
    let a = c.args in
    c.put_bytes.ensures ∙ ap (with_bytes a.h a.at) (ap (take 4) c.to_le_bytes-bytes.ensures ∙ four_low a.n)
