use Rattle.frame_settings.proofs.Editions.{received_alike}
use Rattle.frame_settings.proofs.received_alike.Goals as goal

pub returns : goal.returns
returns c = received_alike
