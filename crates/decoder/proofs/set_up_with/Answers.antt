use mathlib.Core.Path.{sym, ◌∙◌}
use mir.Facts.{to_z-of_z}
use Rattle.refusal.proofs.Clear.{answered_ok}
use Rattle.decoder.specs.SetUp.{set_up_with}
use Rattle.decoder.proofs.set_up_with.Goals as goal

pub returns : goal.returns
unfolding set_up_with
returns c =
    let f = c.ranges in
    let judged = rw (to_z-of_z f.fs_khz, to_z-of_z f.nb_subfr) at c.set_up_refusal.ensures in
    rw (c.state_from.ensures, to_z-of_z f.fs_khz, to_z-of_z f.nb_subfr) (sym (answered_ok _ _ (sym judged ∙ c.in_ok-set_up_refusal.was)))
