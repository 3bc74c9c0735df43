use mathlib.Core.Path.{◌∙◌}
use mathlib.Core.List.{[]}
use mir.Facts.{to_z-of_z}
use Rattle.decoder.specs.SetUp.{set_up_with}
use Rattle.slices.specs.Slices.{slices}
use Rattle.stages.specs.Stages.{set_up_on}
use Rattle.stages.proofs.Ends.{stored_alone}
use Rattle.stages.proofs.set_up.Goals as goal

pub returns-clause-answer : goal.returns-clause-answer
unfolding set_up_on
returns-clause-answer c =
    let a = c.args in
    let m = slices a.state.now.words.now a.state.now.halves.now [] [] [] [] in
    stored_alone m _ c.stored.ensures.answer _ (c.set_up_with-answer.ensures ∙ λ i. set_up_with (to_z-of_z c.ranges.rate i) (to_z-of_z c.ranges.subframes i) a.settings)
