use mathlib.Core.Path.{◌≡◌, sym, ◌∙◌}
use mathlib.Core.Bool.{◌||◌}
use mathlib.Core.List.{List, ◌∷◌, map}
use Rattle.std.proofs.lemmas.Bool.{or_left}
use Rattle.record.specs.Recorded.{Recorded, lost}
use Rattle.recording.specs.Frames.{recorded_at}
use Rattle.culprit.specs.Search.{passes}
use Rattle.culprit.proofs.Laws.{or_false, told, passes_told, heard-step}
use Rattle.culprit.proofs.lost_passes.Goals.{After-lost_heard-h}
use Rattle.culprit.proofs.lost_passes.Goals as goal

-- the loss
module _ (c : After-lost_heard-h) where
  abbrev behind : List Recorded
  behind = map (recorded_at c.args.behind.now.bytes.now) c.args.behind.now.records.now

  turn : passes c.args.limit c.args.khz c.args.nb_subfr c.args.s (lost ∷ behind)
      ≡ (c.lost_heard-h.result.loud || passes (told c.args.limit) (told c.args.khz) (told c.args.nb_subfr) c.lost_heard-h.result.state behind)
  turn =
      sym (passes_told _ _ _ c.ranges.limit c.ranges.khz c.ranges.nb_subfr c.args.s (lost ∷ behind))
      ∙ heard-step _ _ _ c.args.s lost behind c.lost_heard-h.result c.lost_heard-h.ensures

pub returns-then-h : goal.returns-then-h
returns-then-h c =
    c.if-h.true ∙ sym (turn (goal.at.returns-then-h c).After-lost_heard-h ∙ or_left c.lost_heard-h.result.loud _ c.if-h.true)

pub returns-else-h : goal.returns-else-h
returns-else-h c =
    c.passes.ensures ∙ sym (turn (goal.at.returns-else-h c).After-lost_heard-h ∙ or_false c.lost_heard-h.result.loud _ c.if-h.false)
