-- Every function's result is in the range of its type.
use Prim.Native.Nat.{zero, suc, ◌-◌, ◌^◌, ◌<◌}
use mathlib.Core.Path.{◌≡◌, refl, subst}
use mathlib.Core.Bool.{Bool, true, false, cond}
use native.Mathlib.Omega.{arith}
use borrow.Author.Tests.{leb-false, lt-leb}
use lib.Dec.{leb, lit<}
use lib.IntN.{ℤ, pos, negsuc, nat_abs, neg_ℤ, ◌*ℤ◌}
use lib.Signed.{lt_z, le_z}
use mir.Syntax.{w16, w32, w64}
use mir.Val.{SFits}
use Rattle.word.specs.Int.{mod_ℤ, wrap64, eq_ℤ}
use Rattle.word.proofs.Mod.{mod_ℤ_lt}
use Rattle.word.proofs.Range.{mul-fits, floor_div-fits}
use Rattle.word.proofs.Words.{wrap-fits}
use Rattle.word.proofs.Order.{cond_fits, sat32-fits}
use Rattle.word.proofs.Fits.{zero_fits}
use Rattle.macros.specs.Fixed.{smulww, smulwb, smulbb, smultt, smmul, smlaww, smlawb, add_lshift32, lshift_sat32, rand, round_shift, rshift_round, rshift_round64, frac_q7, sqrt_approx}
use Rattle.macros.specs.Quotient.{shift_down, second_inverse, inverse32_varq, normal_quotient, div32_varq}
use Rattle.macros.proofs.Rounding.{Up, up_fits, round_fits, round64_is}

pub smulww-fits : (a b : ℤ) → SFits w32 (smulww a b)
unfolding smulww
smulww-fits a b = wrap-fits w32 _

pub smulwb-fits : (a b : ℤ) → SFits w32 (smulwb a b)
unfolding smulwb
smulwb-fits a b = wrap-fits w32 _

pub smlaww-fits : (a b c : ℤ) → SFits w32 (smlaww a b c)
unfolding smlaww
smlaww-fits a b c = wrap-fits w32 _

pub smlawb-fits : (a b c : ℤ) → SFits w32 (smlawb a b c)
unfolding smlawb
smlawb-fits a b c = wrap-fits w32 _

pub rand-fits : (seed : ℤ) → SFits w32 (rand seed)
unfolding rand
rand-fits seed = wrap-fits w32 _

pub second_inverse-fits : (n i : ℤ) → SFits w32 (second_inverse n i)
unfolding second_inverse
second_inverse-fits n i = smlaww-fits _ _ _
