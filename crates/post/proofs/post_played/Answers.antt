use Prim.Native.Nat.{ℕ, ◌<◌, ◌≤◌, zero-le}
use mathlib.Core.Path.{◌≡◌, refl, ap, ◌∙◌}
use mathlib.Core.Bool.{Bool, true, false, cond}
use borrow.Author.Tests.{leb-true}
use native.Mathlib.Omega.{arith}
use lib.Dec.{leb}
use lib.IntN.{pos}
use lib.ListN.{length}
use lib.Seq.{length-take-le}
use mir.Syntax.{w32}
use mir.Facts.{to_z-of_z, to_z_pos}
use Rattle.shape.specs.Shape.{Shape, shape, frame_length}
use Rattle.decoder.specs.Played.{played_length}
use Rattle.decoder.proofs.Tests.{small_frame}
use Rattle.post.proofs.post_played.Goals.{After-played-part}
use Rattle.post.proofs.post_played.Goals as goal

-- no more than is lent is played, and no more than a frame
most : (p : Shape) (n : ℕ) → (played_length p n ≤ n) × (played_length p n ≤ frame_length p)
unfolding played_length
most p n = go (leb (frame_length p) n) refl
  where
    go : (b : Bool) → leb (frame_length p) n ≡ b → (cond b (frame_length p) 0 ≤ n) × (cond b (frame_length p) 0 ≤ frame_length p)
    go true e = (leb-true (frame_length p) n e, omega arith)
    go false e = (zero-le, zero-le)

module _ (c : After-played-part) where
  part : length c.played-part.result.now ≡ played_length (shape c.args.rate c.args.subframes) (length c.args.output.now)
  part =
      let n = length c.args.output.now in
      let e = rw (to_z-of_z c.ranges.rate, to_z-of_z c.ranges.subframes) at c.played-part.ensures.0 in
      ap length e ∙ length-take-le _ c.args.output.now (most (shape c.args.rate c.args.subframes) n).0

  small : length c.played-part.result.now < 2147483648
  small =
      omega (arith, part, (most (shape c.args.rate c.args.subframes) (length c.args.output.now)).1, small_frame c.args.rate c.args.subframes)

pub overflow_cast-result : goal.overflow_cast-result
overflow_cast-result c = record { sfits = small (goal.at.overflow_cast-result c).After-played-part }

pub returns : goal.returns
returns c =
    let k = (goal.at.returns c).After-played-part in
    to_z_pos w32 {n = length c.played-part.result.now} (omega (arith, small k)) ∙ ap pos (part k)
