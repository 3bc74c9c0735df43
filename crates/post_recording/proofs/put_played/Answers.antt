use mathlib.Core.Path.{◌∙◌}
use mathlib.Core.List.{[], ◌∷◌}
use native.Mathlib.Omega.{arith}
use mir.Syntax.{w32}
use mir.Facts.{to_z_pos}
use Rattle.sigproc.specs.Place.{put_at}
use Rattle.post_recording.proofs.put_played.Goals as goal

pub returns : goal.returns
returns c =
    let m = to_z_pos w32 {n = c.args.samples} (omega (arith, c.requires.0)) in
    c.copy_at.ensures ∙ λ i. put_at c.args.played.now 0 (m i ∷ [])
