use Prim.Native.Nat.{◌-◌, ◌^◌}
use mathlib.Core.Path.{◌≡◌, refl}
use mathlib.Core.List.{map, ◌++◌}
use native.Mathlib.Omega.{arith}
use lib.IntN.{pos, ◌*ℤ◌}
use lib.ListN.{drop, replicate, get_or-append, length-map, length}
use lib.Signed.{le_z}
use mathlib.Core.Bool.{Bool}
use mir.Syntax.{w32}
use mir.Val.{to_z, of_z}
use mir.Facts.{to_z-of_z}
use Rattle.word.proofs.Order.{tested}
use Rattle.stability.specs.Stability.{a_limit, total, stability, stability_by}
use Rattle.stability.proofs.Turns.{steps_cong}
use Rattle.stability.proofs.stable_or_why.Goals.{After-dc_resp}
use Rattle.stability.proofs.stable_or_why.Goals as goal

-- the test of the sum
sum_test : {t : Bool} (c : After-dc_resp)
    → let a = c.args.c.a_q12.now in
    le_z (pos 4096) (to_z w32 (of_z w32 c.dc_resp.result)) ≡ t → le_z (pos 4096) (total a (length a)) ≡ t
sum_test c e =
    rw (← c.dc_resp.ensures) (tested w32 (λ z. le_z (pos 4096) z) c.dc_resp.result c.dc_resp.type_inv e)

pub returns : goal.returns
unfolding stability stability_by
returns c =
    let a = c.args.c.a_q12.now in
    let d = length a in
    let q = map (λ x. x *ℤ pos (2 ^ 12)) a in
    rw (
      c.lpc_inverse_pred_gain_qa.ensures,
      c.in_qa.ensures,
      to_z-of_z c.ranges.edition,
      sum_test (goal.at.returns c).After-dc_resp c.if-dc_resp-ge4096.false,
    )
    (steps_cong a_limit c.args.edition (q ++ drop d (replicate 16 (pos 0))) q (pos (2 ^ 30)) (d - 1) (λ i h. get_or-append q (drop d (replicate 16 (pos 0))) (pos 0) i (rw length-map (omega arith))))

pub returns-then-dc_resp-ge4096 : goal.returns-then-dc_resp-ge4096
unfolding stability stability_by
returns-then-dc_resp-ge4096 c = rw (sum_test c.before c.if-dc_resp-ge4096.true) refl
