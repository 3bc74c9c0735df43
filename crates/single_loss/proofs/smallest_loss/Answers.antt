use Rattle.single_loss.proofs.Smallest.{answer_means, none-exactly}
use Rattle.single_loss.proofs.smallest_loss.Goals as goal

pub returns : goal.returns
returns c = (answer_means, none-exactly)
