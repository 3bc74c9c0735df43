use Rattle.quiet.proofs.Rest.{taps_rest}
use Rattle.quiet.proofs.taps_rest.Goals as goal

pub returns : goal.returns
returns c = taps_rest
