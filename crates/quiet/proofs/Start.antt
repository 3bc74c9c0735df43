-- Every accepted state is one that a loss may find, and after how many losses its filter is small.
use Prim.Native.Nat.{ℕ, ◌≤◌, zero-le}
use mathlib.Core.Path.{◌≡◌, refl, sym, subst}
use mathlib.Core.Bool.{Bool, true, false, cond}
use mathlib.Core.List.{List}
use native.Mathlib.Omega.{arith}
use native.Mathlib.Nat.{le_refl, le_trans}
use lib.Dec.{lit≤}
use lib.IntN.{ℤ, pos, nat_abs}
use lib.ListN.{get_or}
use Rattle.word.specs.Int.{eq_ℤ}
use Rattle.word.specs.Size.{size_at, sizes}
use Rattle.word.proofs.Order.{eq_ℤ_true}
use Rattle.word.proofs.Lists.{sizes_le}
use Rattle.word.proofs.Sizes.{abs_le}
use Rattle.sigproc.proofs.Shrink.{Upto, sum-small, sum_small_sooner}
use Rattle.sigproc.proofs.Ranges.{fit_bounded}
use Rattle.shape.specs.Shape.{Shape, rate_of, lpc_order}
use Rattle.shape.proofs.Shapes.{rate_le, order_le}
use Rattle.decoder.specs.State.{shape_of}
use Rattle.decoder.specs.Accepted.{Accepted}
use Rattle.decoder.specs.Typed.{Typed}
use Rattle.decoder.specs.declared.SilkPLCState.{SilkPLCState}
use Rattle.decoder.specs.declared.SilkDecoderState.{SilkDecoderState}
use Rattle.decoder.proofs.Between.{Between}
use Rattle.decoder.proofs.Bounds.{TapBounds, PlcBounds, bounds}
use Rattle.plc.specs.Hold.{plc_reset, plc_ready}
use Rattle.plc.specs.Conceal.{filter_held, later_gain}
use Rattle.quiet.specs.Bound.{any_sum, any_losses, small_sum, small_losses}
use Rattle.quiet.proofs.Loss.{Gained, Outer, Fits}
use Rattle.quiet.proofs.Wane.{wider, filter_le}
use Rattle.quiet.proofs.Loudness.{Falls}

-- ---- an accepted state
taps_of : (b : List ℤ) → TapBounds b → Outer b × (size_at b 2 ≤ 15565)
taps_of b k = (
  (rw k.first (le_refl 0), rw k.second (le_refl 0), rw k.fourth (le_refl 0), rw k.fifth (le_refl 0)),
  abs_le (get_or b 2 (pos 0)) 15565 (omega (arith, k.high)) (omega (arith, k.low)),
)

upto_of : (B : ℕ) (z : ℤ) → Between 0 B z → Upto B z
upto_of B z k = subst (Upto B) (sym k.is) (zero-le, k.high)

-- the later gain: held, or 65,536 after a reset
gain_of : (p : Shape) (h : SilkPLCState) → PlcBounds p.rate h → (G : ℕ) × Gained G (plc_ready p h)
unfolding plc_ready plc_reset
gain_of p h k = go (eq_ℤ (pos p.rate) h.fs_khz) refl
  where
    go : (b : Bool) → eq_ℤ (pos p.rate) h.fs_khz ≡ b → (G : ℕ) × Gained G (cond b h (plc_reset p h))
    go true e =
        let g = (k.held (sym (eq_ℤ_true (pos p.rate) h.fs_khz e))).prev_gain_q16 1 (lit≤ tt) in
        (nat_abs (later_gain h), record { is = g.is; from = g.low; to = g.high })
    go false e = (65536, record { is = refl; from = lit≤ tt; to = lit≤ tt })

pub fits : (s : SilkDecoderState) → Accepted (rate_of s.fs_khz) s → Typed s → Fits (shape_of s) s
fits s a t =
    let h = s.s_plc in
    let b = bounds (rate_of s.fs_khz) s a in
    let k = b.plc in
    let o = taps_of h.ltp_coef_q14 k.ltp_coef_q14 in
    record {
      shaped = b.sizes.bounds;
      sized = record {
        memory = fit_bounded s.s_lpc_q14_buf t.s_lpc_q14_buf.fits;
        memory16 = t.s_lpc_q14_buf.count;
        room = omega (arith, t.out_buf.count, rate_le s.fs_khz);
      };
      count = (nat_abs s.loss_cnt, b.decoder.loss_cnt);
      gain = gain_of (shape_of s) h k;
      outer = o.0;
      tap = o.1;
      noise = wider h.rand_scale_q14 27840 32767 (lit≤ tt) (upto_of 27840 h.rand_scale_q14 k.rand_scale_q14);
      ltp = upto_of 16384 h.prev_ltp_scale_q14 k.prev_ltp_scale_q14;
      coefs = fit_bounded h.prev_lpc_q12 t.s_plc.prev_lpc_q12.fits;
    }

-- ---- from any state
pub falls_any : Falls any_sum any_losses
falls_any = record { late = lit≤ tt; small = sum-small }

pub sum_any : (p : Shape) (s : SilkDecoderState) → Fits p s → sizes (filter_held s s.s_plc) (lpc_order p) ≤ any_sum
sum_any p s f =
    le_trans (filter_le s s.s_plc (lpc_order p)) (omega (arith, sizes_le s.s_plc.prev_lpc_q12 (lpc_order p) 32768 f.coefs, order_le p.rate))

-- ---- where the coefficients' sizes first add up to little
pub falls_small : Falls small_sum small_losses
falls_small = record { late = lit≤ tt; small = sum_small_sooner }
