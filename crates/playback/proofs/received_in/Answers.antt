use Rattle.std.proofs.Common.{◌∙◌, rules}
use Rattle.std.proofs.lemmas.Iterator.{YieldsList-from_slice}
use Rattle.std.proofs.lemmas.Iterator.Adapters.{serves_from_places}
use Rattle.std.proofs.lemmas.Iterator.Consumers.{YieldsList-from_filter, count_from_yields_List}
use Rattle.recording.proofs.Back.{record_at}
use Rattle.playback.proofs.Received.{was_received, received_each}
use Rattle.playback.proofs.received_in.Goals as goal

pub count-requires-clause-can : goal.count-requires-clause-can
count-requires-clause-can c = (
  tt,
  tt,
  serves_from_places (YieldsList-from_slice c.args.frames.now.records.now cc) (λ x q k. search rules)
      (λ x k h e. let z = record_at _ _ c.args.frames.now.inside x.now k h e in search rules),
)

pub returns : goal.returns
returns c =
    let b = c.args.frames.now.bytes.now in
    let r = c.args.frames.now.records.now in
    let e = count_from_yields_List _ c.count.result c.count.ensures.ran (YieldsList-from_filter _ (was_received b) (YieldsList-from_slice r cc) c.filter.ensures.closure (λ x t q k. search rules)) in
    (e ∙ received_each b r, search rules)
