use Rattle.std.proofs.Common.{◌*◌, ◌≤◌, arith, ◌∙◌, w32}
use Rattle.word.proofs.Words.{kept}
use Rattle.shape.specs.Shape.{shape, frame_length}
use Rattle.shape.proofs.Shapes.{frame_le}
use Rattle.stream.specs.Records.{sample_bytes}
use Rattle.stream.proofs.Head.sample_bytes.Goals as goal

pub overflow_mul-result : goal.overflow_mul-result
overflow_mul-result c =
    let n : c.frame_length.result ≤ 320 = rw c.frame_length.ensures (frame_le _ _) in
    omega arith

pub returns : goal.returns
unfolding sample_bytes
returns c =
    let n : c.frame_length.result ≤ 320 = rw c.frame_length.ensures (frame_le _ _) in
    let x = kept w32 c.from.result c.from.type_inv ∙ c.from.ensures in
    let y = kept w32 c.from-2.result c.from-2.type_inv ∙ c.from-2.ensures in
    let e = c.frame_length.ensures ∙ λ i. frame_length (shape (x i) (y i)) in
    (λ i. 2 * e i, omega arith)
