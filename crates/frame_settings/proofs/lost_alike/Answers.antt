use Rattle.frame_settings.proofs.Losses.{lost_alike}
use Rattle.frame_settings.proofs.lost_alike.Goals as goal

pub returns : goal.returns
returns c = lost_alike
