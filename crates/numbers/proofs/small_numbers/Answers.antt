use mathlib.Core.Path.{◌∙◌}
use mathlib.Core.List.{[], ◌∷◌}
use borrow.Author.Rules.{rules}
use mir.Syntax.{w8, w32}
use mir.Facts.{to_z-of_z}
use Rattle.word.proofs.Words.{got, kept, bool_number}
use Rattle.numbers.specs.Numbers.{small_numbers}
use Rattle.numbers.proofs.small_numbers.Goals as goal

pub returns : goal.returns
unfolding small_numbers
returns c =
    let q = c.args.q in
    let m = c.from-2 in
    let e0 = got w32 c.from.type_inv c.from.ensures ∙ bool_number c.args.received in
    let e1 = to_z-of_z c.ranges.rate in
    let e2 = to_z-of_z c.ranges.subframes in
    let e3 = got w32 c.from-3.type_inv c.from-3.ensures ∙ got w8 m.type_inv m.ensures in
    let e4 = got w32 c.from-4.type_inv c.from-4.ensures ∙ kept w8 q.quant_offset_type (search rules) in
    let e5 = got w32 c.from-5.type_inv c.from-5.ensures ∙ kept w8 q.nlsf_interp_coef_q2 (search rules) in
    let e6 = got w32 c.from-6.type_inv c.from-6.ensures ∙ kept w8 q.seed (search rules) in
    λ i. e0 i ∷ e1 i ∷ e2 i ∷ e3 i ∷ e4 i ∷ e5 i ∷ e6 i ∷ []
