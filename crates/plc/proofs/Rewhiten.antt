-- A buffer of zeros, whose end was filled with a history's residual divided by a gain.
use Prim.Native.Nat.{ℕ, ◌+◌, ◌-◌, ◌≤◌}
use mathlib.Core.Path.{◌≡◌, sym, ap, ◌∙◌}
use mathlib.Core.Bool.{cond}
use mathlib.Core.List.{List, ◌++◌}
use native.Mathlib.Omega.{arith}
use borrow.Rule.Slice.PartMut.{put_mid}
use lib.Dec.{ltb}
use lib.IntN.{ℤ, pos}
use lib.ListN.{length, take, replicate, length-replicate, get_or-replicate}
use lib.Seq.{ext_get_or, get_or-take, length-take-le}
use Rattle.std.proofs.lemmas.Slice.{take-put_mid}
use Rattle.word.specs.Tabulate.{tabulate}
use Rattle.word.proofs.Lists.{length-tabulate}
use Rattle.sigproc.proofs.Fill.{zeros_then}
use Rattle.plc.specs.Conceal.{AllZero}

front-zero : (buf : List ℤ) (n : ℕ) → n ≤ length buf → AllZero buf → take n buf ≡ replicate n (pos 0)
front-zero buf n h zeros =
    let l : length (take n buf) ≡ n = length-take-le n buf h in
    ext_get_or (pos 0) (take n buf) (replicate n (pos 0)) (l ∙ sym (length-replicate n (pos 0)))
    (λ i k. get_or-take n buf i (pos 0) (rw l at k) ∙ zeros i ∙ sym (get_or-replicate n i (pos 0) (pos 0) (rw l at k)))

pub filled_behind : (buf given : List ℤ) (f : ℕ → ℤ) (from mem : ℕ) → from ≤ mem → mem ≤ length buf → AllZero buf → given ≡ tabulate (mem - from) (λ t. f (from + t))
    → take mem (put_mid from (mem - from) buf given) ≡ tabulate mem (λ i. cond (ltb i from) (pos 0) (f i))
filled_behind buf given f from mem h size zeros e =
    let n : length given ≡ mem - from = ap length e ∙ length-tabulate (mem - from) (λ t. f (from + t)) in
    take-put_mid from (mem - from) buf given mem (omega (arith, n)) (omega arith)
    ∙ (λ i. front-zero buf from (omega arith) zeros i ++ e i)
    ∙ zeros_then from mem f h
