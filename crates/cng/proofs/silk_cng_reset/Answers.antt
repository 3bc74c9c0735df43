use mathlib.Core.Path.{refl}
use Rattle.shape.proofs.Shapes.{rate_back, rate_kept}
use Rattle.cng.specs.Noise.{cng_reset}
use Rattle.cng.proofs.silk_cng_reset.Goals as goal

pub returns : goal.returns
unfolding cng_reset
returns c =
    let s = c.args.shape in
    rw (c.flat_lines.ensures, c.order.ensures, rate_back s.fs_khz s.rate, ← rate_kept s.fs_khz s.rate) refl
