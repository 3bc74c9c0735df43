-- A quiet frame: once at least 72 losses count and the sum of the coefficients' sizes is down to 2,048.
use Prim.Native.Nat.{ℕ, zero, suc, ◌-◌, ◌≤◌}
use mathlib.Core.Path.{◌≡◌, refl, ap}
use native.Mathlib.Omega.{arith}
use native.Mathlib.Nat.{le_refl, le_trans}
use lib.IntN.{ℤ, pos, negsuc}
use Rattle.word.specs.Size.{sizes}
use Rattle.sigproc.proofs.Shrink.{Upto, sigmas}
use Rattle.shape.specs.Shape.{Shape, lpc_order}
use Rattle.decoder.specs.declared.SilkPLCState.{SilkPLCState}
use Rattle.decoder.specs.declared.SilkDecoderState.{SilkDecoderState}
use Rattle.plc.specs.Conceal.{filter_held}
use Rattle.quiet.proofs.Voice.{Still, times}
use Rattle.quiet.proofs.Wane.{Later, Waning, later_of, noise_loss, tap_loss, from-turn}

tap_rests : (m : ℕ) → times tap_loss m 20 ≤ 20
unfolding times
tap_rests zero = le_refl 20
tap_rests (suc m) = omega (arith, tap_rests m)

noise_rests : (m : ℕ) → times noise_loss m 0 ≤ 0
unfolding times
noise_rests zero = le_refl 0
noise_rests (suc m) = omega (arith, noise_rests m)

tap_71 : times tap_loss 71 15565 ≡ 20
unfolding times
tap_71 = refl

noise_41 : times noise_loss 41 32767 ≡ 0
unfolding times
noise_41 = refl

tap_small : (c : ℕ) → 71 ≤ c → times tap_loss c 15565 ≤ 20
tap_small c h = from-turn tap_loss 71 c 15565 20 h (λ m. rw tap_71 (tap_rests m))

noise_none : (c : ℕ) → 41 ≤ c → times noise_loss c 32767 ≤ 0
noise_none c h = from-turn noise_loss 41 c 32767 0 h (λ m. rw noise_41 (noise_rests m))

zero_upto : (z : ℤ) → Upto 0 z → z ≡ pos 0
zero_upto (pos n) h = ap pos (omega arith)
zero_upto (negsuc n) h = absurd (omega arith)

-- no noise, the middle tap alone and small, a small filter, and not the first loss
pub record Quiet (p : Shape) (s : SilkDecoderState) (h : SilkPLCState) : Type 0 where
  pub still : Still h.ltp_coef_q14 h.rand_scale_q14
  pub small : sizes (filter_held s h) (lpc_order p) ≤ 2048
  pub later : Later s

pub quiet_of : (p : Shape) (S c : ℕ) (s : SilkDecoderState) (h : SilkPLCState) → 72 ≤ c → sigmas c S ≤ 2048 → Waning p S c s h → Quiet p s h
quiet_of p S c s h k small v =
    let o = v.outer in
    record {
      still = (
        o.0,
        o.1,
        le_trans v.tap (tap_small (c - 1) (omega arith)),
        o.2,
        o.3,
        zero_upto h.rand_scale_q14 (v.noise.0, le_trans v.noise.1 (noise_none (c - 1) (omega arith))),
      );
      small = le_trans v.sum small;
      later = later_of p S c s h (omega arith) v;
    }
