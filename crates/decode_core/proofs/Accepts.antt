-- A call that no row refuses meets the bounds of the synthesis.
use Prim.Native.Nat.{ℕ, ◌+◌, ◌*◌, ◌≤◌}
use mathlib.Core.Path.{◌≡◌, refl, ap}
use mathlib.Core.Bool.{Bool, true, false, not, ◌&&◌}
use native.Mathlib.Omega.{arith}
use lib.IntN.{ℤ, pos, nat_abs}
use lib.ListN.{get_or}
use lib.Signed.{lt_z}
use Rattle.std.specs.Bool.{then_some}
use Rattle.std.specs.Option.{is_some}
use Rattle.word.specs.Int.{eq_ℤ}
use Rattle.shape.specs.Shape.{order_of, rate_of, count_of}
use Rattle.shape.proofs.Shapes.{Rates, at8, at12, at16, order_two}
use Rattle.decoder.specs.Signals.{is_voiced}
use Rattle.decoder.specs.State.{shape_of}
use Rattle.decoder.specs.declared.SilkDecoderState.{SilkDecoderState}
use Rattle.decoder.specs.declared.SilkDecoderControl.{SilkDecoderControl}
use Rattle.decoder.specs.declared.Params.{Params}
use Rattle.decoder.proofs.Between.{is_positive}
use Rattle.decoder.proofs.Bounds.{bounds}
use Rattle.word.proofs.Rows.{both}
use Rattle.judge.proofs.Bounds.{CoreFits}
use Rattle.decode_core.specs.Core.{transition, setting_of}
use Rattle.decode_core.specs.Ready.{Framed}

-- a lag of 2r to 18r lies within the history with its filter
lag_of_lem : {r : ℕ} (n : ℕ) → Rates r → 2 * r ≤ n → n ≤ 18 * r → (3 ≤ n) × (order_of r + n + 2 ≤ 20 * r)
unfolding order_of
lag_of_lem {r} n (at8 e) l h = let o : order_of r ≡ 10 = rw e refl in (omega arith, omega arith)
lag_of_lem {r} n (at12 e) l h = let o : order_of r ≡ 10 = rw e refl in (omega arith, omega arith)
lag_of_lem {r} n (at16 e) l h = let o : order_of r ≡ 16 = rw e refl in (omega arith, omega arith)

is_there : (b : Bool) (z : ℤ) → is_some (then_some b z) ≡ true → b ≡ true
is_there true z e = refl
is_there false z e = e

pub framed : (s : SilkDecoderState) (q : Params) (c : SilkDecoderControl) (pulses output : ℕ) → CoreFits s q c pulses output → Framed (setting_of (shape_of s) s q) c (count_of s.nb_subfr)
unfolding setting_of transition
framed s q c pulses output h =
    let b = bounds (rate_of s.fs_khz) s h.accepted in
    let z = b.sizes.bounds in
    let p = h.params in
    record {
      sized = record { order = order_two z.rate; subframe = omega (arith, z.rate_high); history = omega arith };
      count = z.count_high;
      gains = λ k l e. omega (arith, ap nat_abs e, (p.gains k l).low);
      lags = λ v k l.
          let g = p.lags v k l in
          let i = lag_of_lem (nat_abs (get_or c.pitch_l k (pos 0))) z.rate g.low g.high in
          record { whole = g.is; low = i.0; high = i.1 };
      smooth = λ t'.
          let t = is_there _ s.lag_prev t' in
          let x = both (lt_z (pos 0) s.loss_cnt && eq_ℤ s.prev_signal_type (pos 2)) (not (is_voiced q.signal)) t in
          let y = both (lt_z (pos 0) s.loss_cnt) (eq_ℤ s.prev_signal_type (pos 2)) x.0 in
          let g = b.decoder.lag_prev (is_positive s.loss_cnt y.0) in
          let i = lag_of_lem (nat_abs s.lag_prev) z.rate g.low g.high in
          rw t (record { whole = g.is; low = i.0; high = i.1 });
    }
