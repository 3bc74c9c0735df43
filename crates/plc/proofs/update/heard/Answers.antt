use Rattle.std.proofs.Common.{◌≡◌, ◌^◌, ◌∙◌, ℤ, rules, to_z-of_z, to_z, of_z, w32}
use Rattle.word.specs.Int.{floor_div, sat16}
use Rattle.word.proofs.Each.{map_of_each}
use Rattle.word.proofs.Words.{kept}
use Rattle.macros.specs.Fixed.{smulww}
use Rattle.plc.specs.Conceal.{heard_by}
use Rattle.plc.proofs.update.heard.Goals as goal

-- a sample played by a gain (Q10)
abbrev by : ℤ → ℤ → ℤ
by gain e = sat16 (floor_div (smulww e gain) (2 ^ 8))

pub returns : goal.returns
unfolding heard_by
returns c =
    let g = kept w32 _ c.shr32-gain_q10.type_inv ∙ c.shr32-gain_q10.ensures in
    map_of_each _ (by (floor_div c.args.gain_q16 (2 ^ 6))) c.args.exc.now _ c.map_into.ensures
    (λ x y r. let e : y ≡ by (to_z w32 (of_z w32 c.shr32-gain_q10.result)) x = search rules in rw (g, to_z-of_z c.ranges.gain_q16) at e)
