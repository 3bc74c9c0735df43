use Rattle.load_recording.proofs.Drawn.{load_recorded_lem}
use Rattle.load_recording.proofs.load_recorded.Goals as goal

pub returns : goal.returns
returns c = load_recorded_lem
