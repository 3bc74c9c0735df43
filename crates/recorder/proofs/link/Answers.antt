use Prim.Native.Nat.{ℕ, suc, ◌+◌, ◌*◌}
use mathlib.Core.Path.{◌≡◌, ap, ◌∙◌}
use native.Mathlib.Omega.{arith}
use lib.IntN.{pos}
use Rattle.le.specs.Bytes.{bytes_of, with_bytes}
use Rattle.recorder.proofs.link.Goals as goal

pub returns : goal.returns
returns c =
    let a = c.args in
    let e : a.n + 1 ≡ suc a.n = omega arith in
    c.put.ensures ∙ ap (λ (m : ℕ). with_bytes a.bytes.now (1024 * a.n) (bytes_of 2 (pos m))) e
