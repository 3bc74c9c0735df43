use Rattle.load.proofs.Valid.{drawn_valid, drawn_typed}
use Rattle.load.proofs.drawn_valid.Goals as goal

pub returns : goal.returns
returns c = (drawn_valid, drawn_typed)
