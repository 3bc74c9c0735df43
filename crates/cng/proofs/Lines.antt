-- Noise at its rate: its lines are not negative, and its gain is in range.
use Prim.Native.Nat.{ℕ, ◌<◌}
use mathlib.Core.Path.{◌≡◌, refl, sym, ◌∙◌}
use mathlib.Core.Bool.{Bool, true, false, cond}
use mathlib.Core.List.{List, ◌++◌}
use native.Mathlib.Omega.{arith}
use borrow.Author.Tests.{le-ltb}
use lib.Dec.{lit≤}
use lib.IntN.{ℤ, pos, negsuc, nat_abs}
use lib.ListN.{get_or, drop, get_or-append}
use lib.Signed.{lt_z}
use Rattle.word.specs.Int.{eq_ℤ}
use Rattle.word.specs.Tabulate.{tabulate}
use Rattle.word.proofs.Lists.{length-tabulate, get_or-tabulate}
use Rattle.word.proofs.Order.{eq_ℤ_true}
use Rattle.nlsf.specs.Lines.{negative_line}
use Rattle.nlsf.proofs.Lines.{nonneg_lines}
use Rattle.shape.specs.Shape.{order_of}
use Rattle.decoder.specs.declared.SilkCNGState.{SilkCNGState}
use Rattle.decoder.proofs.Between.{Between, AllBetween}
use Rattle.decoder.proofs.Bounds.{CngHeldBounds, CngBounds}
use Rattle.cng.specs.Noise.{flat_line, cng_reset, cng_ready}
use Rattle.cng.proofs.Numbers.{flat_le}

natural : (z : ℤ) → z ≡ pos (nat_abs z) → lt_z z (pos 0) ≡ false
natural (pos n) e = le-ltb n 0 (omega arith)
natural (negsuc n) e = cc

pub none_negative : (lines : List ℤ) (n : ℕ) → AllBetween 0 32767 lines n → negative_line lines n ≡ false
none_negative lines n h = nonneg_lines lines n (λ k l. natural (get_or lines k (pos 0)) (h k l).is)

flat_between : (d i : ℕ) → i < d → Between 0 32767 (flat_line d i)
unfolding flat_line
flat_between d i h = record { is = refl; low = omega arith; high = flat_le d i h }

flat_at : (d : ℕ) (rest : List ℤ) (i : ℕ) → i < d → get_or (tabulate d (flat_line d) ++ rest) i (pos 0) ≡ flat_line d i
flat_at d rest i h =
    get_or-append (tabulate d (flat_line d)) rest (pos 0) i (rw (length-tabulate d (flat_line d)) h) ∙ get_or-tabulate d (flat_line d) i h

reset_held : (r : ℕ) (h : SilkCNGState) → CngHeldBounds r (cng_reset r h)
unfolding cng_reset
reset_held r h =
    let d = order_of r in
    record {
      cng_smth_nlsf_q15 = λ i l. rw (flat_at d (drop d h.cng_smth_nlsf_q15) i l) (flat_between d i l);
      cng_smth_gain_q16 = record { is = refl; low = lit≤ tt; high = lit≤ tt };
    }

pub ready_held : (r : ℕ) (h : SilkCNGState) → CngBounds r h → CngHeldBounds r (cng_ready r h)
unfolding cng_ready
ready_held r h b = go (eq_ℤ (pos r) h.fs_khz) refl
  where
    go : (t : Bool) → eq_ℤ (pos r) h.fs_khz ≡ t → CngHeldBounds r (cond t h (cng_reset r h))
    go true e = b (sym (eq_ℤ_true (pos r) h.fs_khz e))
    go false e = reset_held r h
