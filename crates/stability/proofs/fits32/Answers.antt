use mathlib.Core.Path.{◌≡◌}
use mir.Syntax.{w32, w64}
use mir.Facts.{to_z-of_z, sfits_widen}
use Rattle.word.specs.Int.{wrap32}
use Rattle.word.proofs.Words.{kept, wrap-fits, eq_words}
use Rattle.stability.specs.Stability.{fits32}
use Rattle.stability.proofs.fits32.Goals as goal

pub returns : goal.returns
unfolding fits32
returns c =
    let x = c.args.x in
    let low : c.wide.result ≡ wrap32 x = cc (to_z-of_z c.ranges.x, kept w32 c.low32.result c.low32.type_inv) in
    rw low (eq_words w64 (wrap32 x) x (sfits_widen tt (wrap-fits w32 x)) c.ranges.x)
