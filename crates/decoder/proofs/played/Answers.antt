use Prim.Native.Nat.{ℕ}
use mathlib.Core.Path.{◌≡◌, refl}
use native.Mathlib.Omega.{arith}
use native.Mathlib.Nat.{sub-zero}
use borrow.Author.Tests.{le-leb, lt-leb}
use borrow.Rule.Slice.Shared.{by_size}
use mir.Facts.{to_z-of_z}
use Rattle.decoder.specs.Played.{played_length}
use Rattle.decoder.proofs.played.Goals as goal

-- a part from place 0 on starts where its slice does
at-start : (p : ℕ) → by_size 2 0 p ≡ p
at-start p = omega arith

pub returns-then-n-output : goal.returns-then-n-output
unfolding played_length
returns-then-n-output c =
    rw (sub-zero c.frame_length-n.result, at-start c.args.output.ref_ptr.1, ← to_z-of_z c.ranges.fs_khz, ← to_z-of_z c.ranges.nb_subfr, ← c.frame_length-n.ensures, le-leb _ _ c.if-n-output.true) (refl, refl)

pub returns : goal.returns
unfolding played_length
returns c =
    rw (at-start c.args.output.ref_ptr.1, ← to_z-of_z c.ranges.fs_khz, ← to_z-of_z c.ranges.nb_subfr, ← c.frame_length-n.ensures, lt-leb _ _ c.if-n-output.false) (refl, refl)
