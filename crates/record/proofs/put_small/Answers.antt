use mathlib.Core.Path.{◌∙◌}
use mathlib.Core.List.{[], ◌∷◌}
use Rattle.word.specs.Int.{mod_ℤ}
use Rattle.le.specs.Bytes.{with_bytes}
use Rattle.le.proofs.Numbers.{byte_got}
use borrow.Author.Rules.{rules}
use Rattle.record.proofs.put_small.Goals as goal

pub returns : goal.returns
returns c =
    let a = c.args in
    let t = byte_got c.from.result c.from.type_inv c.cast_unsigned.ensures ∙ λ i. mod_ℤ (c.from.ensures i) 256 in
    let o = byte_got a.q.quant_offset_type (search rules) c.cast_unsigned-2.ensures in
    let n = byte_got a.q.nlsf_interp_coef_q2 (search rules) c.cast_unsigned-3.ensures in
    let s = byte_got a.q.seed (search rules) c.cast_unsigned-4.ensures in
    c.put_bytes.ensures ∙ λ i. with_bytes a.to.now a.at (1 ∷ t i ∷ o i ∷ n i ∷ s i ∷ [])
