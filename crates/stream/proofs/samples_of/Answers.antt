use Prim.Native.Nat.{◌*◌, ◌≤◌}
use mathlib.Core.Path.{◌∙◌}
use native.Mathlib.Nat.{mul-le-mul}
use native.Mathlib.Omega.{arith}
use mir.Syntax.{w32}
use Rattle.word.proofs.Words.{kept}
use Rattle.shape.specs.Shape.{shape, frame_length}
use Rattle.shape.proofs.Shapes.{frame_le}
use Rattle.stream.specs.Header.{samples_of}
use Rattle.stream.proofs.samples_of.Goals as goal

pub overflow_mul-result : goal.overflow_mul-result
overflow_mul-result c =
    let n : c.frame_length-n.result ≤ 320 = rw c.frame_length-n.ensures (frame_le _ _) in
    let u : c.from-3.result ≤ 4294967295 = omega (arith, c.from-3.ensures) in
    let p = mul-le-mul u n in
    omega (arith, p)

pub returns : goal.returns
unfolding samples_of
returns c =
    let n : c.frame_length-n.result ≤ 320 = rw c.frame_length-n.ensures (frame_le _ _) in
    let u : c.from-3.result ≤ 4294967295 = omega (arith, c.from-3.ensures) in
    let p = mul-le-mul u n in
    let y = kept w32 c.from-2.result c.from-2.type_inv ∙ c.from-2.ensures in
    let x = kept w32 c.from.result c.from.type_inv ∙ c.from.ensures in
    let e = c.frame_length-n.ensures ∙ λ i. frame_length (shape (x i) (y i)) in
    (λ i. (c.from-3.ensures ∙ c.at.ensures) i * e i, omega (arith, p))
