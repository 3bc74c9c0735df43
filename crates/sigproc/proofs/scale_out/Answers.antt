use Rattle.std.proofs.Common.{◌≡◌, ◌∙◌, rules, to_z-of_z, to_z, of_z, w32}
use Rattle.word.proofs.Each.{map_of_each}
use Rattle.word.proofs.Words.{kept}
use Rattle.sigproc.specs.Synthesis.{played_q10, played}
use Rattle.sigproc.proofs.scale_out.Goals as goal

pub returns : goal.returns
unfolding played
returns c =
    let g = kept w32 _ c.shr32-gain_q10.type_inv ∙ c.shr32-gain_q10.ensures in
    map_of_each _ (played c.args.gain_q16) c.args.s.now _ c.map_into.ensures
    (λ x y r. let e : y ≡ played_q10 (to_z w32 (of_z w32 c.shr32-gain_q10.result)) x = search rules in rw (g, to_z-of_z c.ranges.gain_q16) at e)
