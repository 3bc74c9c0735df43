use Rattle.std.proofs.Common.{◌∙◌, rules}
use Rattle.std.proofs.lemmas.Iterator.{YieldsList-from_slice}
use Rattle.std.proofs.lemmas.Iterator.Adapters.{serves_from_places}
use Rattle.std.proofs.lemmas.Iterator.Search.{all_from_yields_List}
use Rattle.recording.specs.Frames.{is_frame}
use Rattle.recording.proofs.Back.{record_at, frames_each}
use Rattle.recording.proofs.are_frames.Goals as goal

pub all-requires-clause-callable : goal.all-requires-clause-callable
all-requires-clause-callable c =
    serves_from_places (YieldsList-from_slice c.args.frames.now.records.now cc) (λ x q k. search rules)
    (λ x k h e. let z = record_at _ _ c.args.frames.now.inside x.now k h e in search rules)

pub returns : goal.returns
returns c =
    let b = c.args.frames.now.bytes.now in
    let r = c.args.frames.now.records.now in
    all_from_yields_List (is_frame b) _ _ c.all.result c.all.ensures.ran (YieldsList-from_slice r cc) (λ x t q k. search rules) ∙ frames_each b r
