use Rattle.std.proofs.Common.{refl}
use Rattle.recording.proofs.Accepted.{lies, many, frames-back}
use Rattle.recording.proofs.Recording.frames_in.Goals as goal

pub invariant_of-result : goal.invariant_of-result
invariant_of-result c = record { inside = lies c.args.bytes.now c.args.self.now c.requires _ }

pub returns : goal.returns
returns c =
    let b = c.args.bytes.now in
    let r = c.args.self.now in
    (refl, frames-back b r c.requires, many b r c.requires)
