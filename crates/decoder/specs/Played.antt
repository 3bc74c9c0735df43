-- Document 01: "A further call gives the played part of the output buffer itself, not a copy; for a shape refused under 1 or 2 or a short buffer it is empty."
use Rattle.std.specs.Prelude.{ℕ, cond, leb}
use Rattle.shape.specs.Shape.{Shape, frame_length}

-- how many samples of a buffer of `lent` are played at a shape; a shape that is none has a frame of 0
unfoldable pub played_length : Shape → ℕ → ℕ
played_length p lent = cond (leb (frame_length p) lent) (frame_length p) 0
