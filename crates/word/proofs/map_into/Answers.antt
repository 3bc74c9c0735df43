use Rattle.std.proofs.Common.{rules, arith, add-one}
use Rattle.word.proofs.Each.{each_turn}
use Rattle.word.proofs.map_into.Goals as goal

pub loop-i-preserved : goal.loop-i-preserved
loop-i-preserved g c = (
  search rules,
  rw (add-one c.loop-i.i) (each_turn _ c.args.from.now c.loop-i.to c.loop-i.i _ c.f.result (omega arith) (omega arith) (search rules) c.loop-i.invariant.1 c.f.ensures),
)
