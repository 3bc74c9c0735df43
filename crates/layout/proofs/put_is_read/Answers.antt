use Rattle.layout.proofs.Stored.{stored}
use Rattle.layout.proofs.Frames.{frame-stored}
use Rattle.layout.proofs.put_is_read.Goals as goal

pub returns : goal.returns
returns c = (λ words halves s t. stored s t words halves, frame-stored)
