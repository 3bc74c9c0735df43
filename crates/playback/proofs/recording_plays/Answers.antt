use Rattle.playback.proofs.Plays.{recording_plays}
use Rattle.playback.proofs.recording_plays.Goals as goal

pub returns : goal.returns
returns c = recording_plays
