use Prim.Native.Nat.{◌<◌, ◌≤◌}
use mathlib.Core.Path.{◌≡◌, sym, ◌∙◌}
use mathlib.Core.Bool.{Bool}
use mathlib.Core.List.{List}
use native.Mathlib.Nat.{le_antisymm}
use native.Mathlib.Omega.{arith}
use borrow.Author.Rules.{rules}
use lib.IntN.{ℤ, pos, nat_abs}
use lib.ListN.{length}
use lib.Signed.{lt_z}
use mir.Syntax.{w32}
use mir.Val.{to_z, of_z}
use Rattle.word.specs.Int.{wrap32}
use Rattle.word.proofs.Words.{kept, got}
use Rattle.nlsf.specs.Fit.{maxabs, in_q12}
use Rattle.nlsf.proofs.Rounds.{length-bwexpander32, largest_place, fit-stops, fit-goes_on, fit_ends, rounded-saturated}
use Rattle.nlsf.proofs.silk_lpc_fit.Goals.{After-in_q12-m}
use Rattle.nlsf.proofs.silk_lpc_fit.Goals as goal

-- the largest coefficient, in Q12
largest : (c : After-in_q12-m) → let a = c.loop.a in c.in_q12-m.result ≡ in_q12 (maxabs a (length a)).size
largest c = rw (c.in_q12-m.ensures, kept w32 c.maxabs-p.result.size c.struct_told-1.given.0.1, c.maxabs-p.ensures)

within : {t : Bool} (c : After-in_q12-m) → let a = c.loop.a in
    lt_z (pos 32767) (to_z w32 (of_z w32 c.in_q12-m.result)) ≡ t → lt_z (pos 32767) (in_q12 (maxabs a (length a)).size) ≡ t
within c e = rw (got w32 c.in_q12-m.type_inv (largest c)) at e

pub returns-else-m-gt32767 : goal.returns-else-m-gt32767
returns-else-m-gt32767 c =
    let t = c.loop-test.true in
    rw (c.rounded.ensures, c.loop.invariant.3) (sym (fit-stops c.loop.a c.loop.counter t (within (goal.at.returns-else-m-gt32767 c).After-in_q12-m c.if-m-gt32767.false)))

-- its place
fits : (a : List ℤ) → length a ≤ 16 → (maxabs a (length a)).place < 16
fits a h = omega (arith, largest_place (λ x. wrap32 (pos (nat_abs x))) a (length a))

pub chirp_of-requires : goal.chirp_of-requires
chirp_of-requires c =
    let a = c.loop.a in
    (c.if-m-gt32767.true, rw c.maxabs-p.ensures (fits a (search rules)))

pub loop-preserved : goal.loop-preserved
loop-preserved c =
    let t = c.loop-test.true in
    let a = c.loop.a in (
      search rules,
      search rules,
      rw (c.silk_bwexpander_32.ensures, length-bwexpander32) (search rules),
      rw (c.silk_bwexpander_32.ensures, got w32 c.chirp_of.type_inv c.chirp_of.ensures, got w32 c.in_q12-m.type_inv (largest (goal.at.loop-preserved c).After-in_q12-m), c.maxabs-p.ensures)
          (c.loop.invariant.3 ∙ fit-goes_on a c.loop.counter t (within (goal.at.loop-preserved c).After-in_q12-m c.if-m-gt32767.true)),
    )

pub returns : goal.returns
returns c =
    let e = le_antisymm c.loop.invariant.0 c.loop-test.false in
    rw (c.rounded-2.ensures, c.saturated.ensures, rounded-saturated c.loop.a) (sym (rw e at c.loop.invariant.3 ∙ fit_ends c.loop.a))
