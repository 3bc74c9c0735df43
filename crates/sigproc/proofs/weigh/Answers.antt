use Rattle.std.proofs.Common.{◌≡◌, rules, to_z-of_z, to_z, of_z, w32}
use Rattle.macros.specs.Fixed.{smulwb}
use Rattle.word.proofs.Each.{map_of_each}
use Rattle.sigproc.proofs.weigh.Goals as goal

pub returns : goal.returns
returns c =
    map_of_each _ (smulwb c.args.inverse) c.args.residual.now _ c.map_into.ensures
    (λ x y r. let e : y ≡ smulwb (to_z w32 (of_z w32 c.args.inverse)) x = search rules in rw (to_z-of_z c.ranges.inverse) at e)
