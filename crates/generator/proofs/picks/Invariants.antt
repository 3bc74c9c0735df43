use Rattle.std.proofs.Common.{◌≡◌, ◌+◌, ◌++◌, drop}
use Rattle.std.specs.Prelude.{map}
use Rattle.generator.specs.Draws.{drawn}
use Rattle.generator.specs.Scaled.{picks}
use Rattle.generator.proofs.picks.Given as goal

abbrev pub invariant-loop-v : goal.invariant-loop-v
invariant-loop-v g l =
    record {
      last : l.x ≡ drawn l.seed (l.at + l.v-index);
      stored : map g.T.Number.number l.to ≡ picks l.low l.count l.seed l.at l.v-index ++ drop l.v-index (map g.T.Number.number l.initial.to);
    }
