use Rattle.std.proofs.Common.{◌≡◌, ◌*◌, ◌%◌, ◌^◌, ◌≤◌}
use Rattle.sigproc.specs.Energy.{pairs}
use Rattle.sigproc.proofs.energy_at.Given as goal

abbrev pub invariant-loop-pair : goal.invariant-loop-pair
invariant-loop-pair l =
    record {
      total : l.sum ≡ pairs l.x l.s l.pair-index % 2 ^ 32;
      most : 2 ^ l.s * pairs l.x l.s l.pair-index ≤ 2 ^ 31 * l.pair-index;
    }
