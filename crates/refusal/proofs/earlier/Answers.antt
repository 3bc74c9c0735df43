use Rattle.refusal.proofs.Earliest.{min_is}
use Rattle.refusal.proofs.earlier.Goals as goal

pub returns-in-Err-Err : goal.returns-in-Err-Err
returns-in-Err-Err c = min_is c.args.a c.args.b c.in-Err-Err.is-0 c.in-Err-Err.is-1 c.min.ensures
