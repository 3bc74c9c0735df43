use Rattle.trial.proofs.Counts.{all_played}
use Rattle.trial.proofs.Sums.{adds_up}
use Rattle.trial.proofs.adds_up.Goals as goal

pub returns : goal.returns
returns c = (adds_up, all_played)
