use Prim.Native.Nat.{◌-◌, ◌%◌}
use mathlib.Core.Path.{◌≡◌, ◌∙◌}
use native.Mathlib.Omega.{arith}
use native.Mathlib.Nat.{mod-eq_of_lt}
use borrow.Author.Rules.{rules}
use lib.IntN.{pos, nat_abs}
use mir.Syntax.{w32}
use mir.Val.{to_z, of_z}
use Rattle.glue.specs.Glue.{lowered}
use Rattle.glue.proofs.Shifts.{difference}
use Rattle.word.proofs.Words.{kept}
use Rattle.glue.proofs.lowered.Goals.{After-silk_max_32}
use Rattle.glue.proofs.lowered.Goals as goal

-- the places of the shift
places : (c : After-silk_max_32) → let a = c.args in to_z w32 (of_z w32 c.silk_max_32.result) ≡ pos (nat_abs a.other.shift - nat_abs a.e.shift)
places c =
    let e = c.args.e in
    let o = c.args.other in
    kept w32 _ c.silk_max_32.type_inv ∙ c.silk_max_32.ensures
    ∙ rw (kept w32 _ c.sub32.type_inv ∙ c.sub32.ensures, kept w32 o.shift (search rules), kept w32 e.shift (search rules), o.places, e.places)
    (difference (nat_abs o.shift) (nat_abs e.shift) (omega (arith, o.most)) (omega (arith, e.most)))

pub returns : goal.returns
unfolding lowered
returns c =
    let e = c.args.e in
    let o = c.args.other in
    let m : (nat_abs o.shift - nat_abs e.shift) % 32 ≡ nat_abs o.shift - nat_abs e.shift = mod-eq_of_lt (omega (arith, o.most)) in
    rw (kept w32 _ c.shr32.type_inv ∙ c.shr32.ensures, places (goal.at.returns c).After-silk_max_32, m, kept w32 e.energy (search rules), e.natural)
