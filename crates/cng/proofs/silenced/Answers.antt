use mathlib.Core.Path.{◌≡◌, refl}
use borrow.Author.Rules.{rules}
use lib.ListN.{length, take}
use lib.Seq.{length-take-le}
use Rattle.shape.proofs.Orders.{size_high}
use Rattle.cng.specs.Noise.{silenced}
use Rattle.cng.proofs.silenced.Goals as goal

pub returns : goal.returns
unfolding silenced
returns c =
    let memory = c.args.h.now.cng_synth_state in
    let sixteen : length memory ≡ 16 = search rules in
    let n : length (take c.size.result memory) ≡ c.size.result = length-take-le _ _ (rw (sixteen, c.size.ensures) (size_high c.args.order)) in
    rw (c.fill.ensures.after, n, c.size.ensures) refl
