use Prim.Native.Nat.{◌+◌, ◌-◌, ◌*◌, ◌/◌}
use native.Mathlib.Numerals.{add-one}
use native.Mathlib.Omega.{arith}
use lib.IntN.{pos}
use mir.Syntax.{w32}
use Rattle.word.proofs.Sizes.{difference_kept}
use Rattle.word.proofs.Words.{kept, got}
use Rattle.nlsf.specs.Fit.{fit_chirp}
use Rattle.nlsf.proofs.Chirps.{quotient_le}
use Rattle.nlsf.proofs.fit_chirp.Goals as goal

pub returns : goal.returns
unfolding fit_chirp
returns c =
    let q = quotient_le c.args.m c.args.place c.requires.0 c.requires.1 in
    let v = (c.args.m - 32767) * 16384 / (c.args.m * (c.args.place + 1) / 4) in
    rw (got w32 c.sub32.type_inv c.sub32.ensures, kept w32 (pos v) (omega (arith, q)), difference_kept 65470 v (omega arith) (omega (arith, q)), add-one)
