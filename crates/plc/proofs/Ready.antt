-- What holds of a shape's order, of concealment that is ready for a rate, and of one loss more.
use Prim.Native.Nat.{ℕ, zero, suc, ◌+◌, ◌*◌, ◌^◌, ◌<◌, ◌≤◌}
use mathlib.Core.Path.{◌≡◌, refl, sym}
use mathlib.Core.Bool.{Bool, true, false, cond}
use mathlib.Core.List.{[], ◌∷◌}
use native.Mathlib.Omega.{arith}
use borrow.Author.Tests.{eqb-false, ltb-true, ltb-false}
use lib.Dec.{ltb, lit≤}
use lib.IntN.{pos, ◌+ℤ◌}
use lib.ListN.{get_or}
use Rattle.word.specs.Int.{wrap32, eq_ℤ}
use Rattle.word.proofs.Order.{eq_ℤ_true}
use Rattle.word.proofs.Sizes.{abs-fits}
use Rattle.word.proofs.Words.{wrap_id}
use Rattle.shape.specs.Shape.{Shape, order_of}
use Rattle.shape.proofs.Shapes.{Rates, at8, at12, at16, Shaped}
use Rattle.decoder.specs.declared.SilkPLCState.{SilkPLCState}
use Rattle.decoder.proofs.Between.{Between}
use Rattle.decoder.proofs.Bounds.{PlcBounds, PlcHeldBounds, short}
use Rattle.plc.specs.Hold.{plc_reset, plc_ready}

pub order_room : {r : ℕ} → Rates r → order_of r + 2 ≤ 2 * r
unfolding order_of
order_room (at8 e) = rw e (lit≤ tt)
order_room (at12 e) = rw e (lit≤ tt)
order_room (at16 e) = rw e (lit≤ tt)

reset_gains : (i : ℕ) → i < 2 → Between 65536 1686110208 (get_or (pos 65536 ∷ pos 65536 ∷ []) i (pos 0))
reset_gains zero h = record { is = refl; low = lit≤ tt; high = lit≤ tt }
reset_gains (suc zero) h = record { is = refl; low = lit≤ tt; high = lit≤ tt }
reset_gains (suc (suc i)) h = absurd (omega arith)

module _ (p : Shape) (h : SilkPLCState) (b : Shaped p.rate p.subframes) where
  pub reset_held : PlcHeldBounds p.rate (plc_reset p h)
  unfolding plc_reset
  reset_held =
      record {
        pitch_l_q8 = record { is = refl; low = omega (arith, b.frame_low); high = omega (arith, b.frame_high) };
        prev_gain_q16 = reset_gains;
        subframes = short refl refl;
      }

  pub ready_held : PlcBounds p.rate h → PlcHeldBounds p.rate (plc_ready p h)
  unfolding plc_ready
  ready_held f = go (eq_ℤ (pos p.rate) h.fs_khz) refl
    where
      go : (t : Bool) → eq_ℤ (pos p.rate) h.fs_khz ≡ t → PlcHeldBounds p.rate (cond t h (plc_reset p h))
      go true e = f.held (sym (eq_ℤ_true (pos p.rate) h.fs_khz e))
      go false e = reset_held

-- reset or not, it is held for the rate then
pub ready_rate : (p : Shape) (h : SilkPLCState) → (plc_ready p h).fs_khz ≡ pos p.rate
unfolding plc_ready plc_reset
ready_rate p h = go (eq_ℤ (pos p.rate) h.fs_khz) refl
  where
    go : (b : Bool) → eq_ℤ (pos p.rate) h.fs_khz ≡ b → (cond b h (plc_reset p h)).fs_khz ≡ pos p.rate
    go true e = sym (eq_ℤ_true (pos p.rate) h.fs_khz e)
    go false e = refl

pub one_more : (n : ℕ) → n < 2 ^ 31 → eq_ℤ (pos n) (pos 2147483647) ≡ false → wrap32 (pos n +ℤ pos 1) ≡ pos n +ℤ pos 1
one_more n h e = go (ltb n 2147483647) refl
  where
    go : (t : Bool) → ltb n 2147483647 ≡ t → wrap32 (pos n +ℤ pos 1) ≡ pos n +ℤ pos 1
    go true t = let l = ltb-true n 2147483647 t in wrap_id (abs-fits (pos (n + 1)) (omega arith))
    go false t = let l = ltb-false n 2147483647 t in absurd (eqb-false n 2147483647 e (omega arith))
