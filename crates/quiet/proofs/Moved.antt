-- What a coming shape leaves of the losses that count (document 02, Note 1).
use Prim.Native.Nat.{ℕ, zero, suc, ◌-◌, ◌≤◌, zero-le}
use mathlib.Core.Path.{◌≡◌, refl, sym, ◌∙◌, subst}
use mathlib.Core.Bool.{Bool, true, false, cond}
use native.Mathlib.Nat.{le_refl, le_trans}
use lib.IntN.{ℤ, pos}
use lib.ListN.{take, replicate}
use Rattle.word.specs.Int.{eq_ℤ}
use Rattle.word.specs.Size.{size_at}
use Rattle.word.proofs.Order.{eq_ℤ_true}
use Rattle.shape.specs.Shape.{shape, rate_of, count_of, mem_length, lpc_order}
use Rattle.shape.proofs.Shapes.{Shaped}
use Rattle.decoder.specs.State.{shape_of}
use Rattle.decoder.specs.declared.SilkPLCState.{SilkPLCState}
use Rattle.decoder.specs.declared.SilkDecoderState.{SilkDecoderState}
use Rattle.plc.specs.Hold.{plc_reset, plc_ready}
use Rattle.plc.specs.Conceal.{later_gain}
use Rattle.decoder.specs.Reshape.{reshaped_by, reshaped}
use Rattle.quiet.proofs.Loss.{Fits}
use Rattle.quiet.proofs.Wane.{zeros, zeros-sum}
use Rattle.quiet.proofs.Frames.{row-silent}
use Rattle.quiet.proofs.Loudness.{After}

-- the later gain does not depend on the count of subframes, reset or not
gain_same : (r n m : ℕ) (h : SilkPLCState) → later_gain (plc_ready (record { rate = r; subframes = n }) h) ≡ later_gain (plc_ready (record { rate = r; subframes = m }) h)
unfolding plc_ready plc_reset
gain_same r n m h = go (eq_ℤ (pos r) h.fs_khz)
  where
    go : (b : Bool) → later_gain (cond b h (plc_reset (record { rate = r; subframes = n }) h)) ≡ later_gain (cond b h (plc_reset (record { rate = r; subframes = m }) h))
    go true = refl
    go false = refl

take-zeros : (m n i : ℕ) → size_at (take m (replicate n (pos 0))) i ≤ 0
take-zeros zero n i = le_refl 0
take-zeros (suc m) zero i = le_refl 0
take-zeros (suc m) (suc n) zero = le_refl 0
take-zeros (suc m) (suc n) (suc i) = take-zeros m n i

module _ (nb : ℤ) (s : SilkDecoderState) (G S k c : ℕ) (a : After (shape_of s) G S k c s) where
  -- another count of subframes keeps all
  recounted : Shaped (rate_of s.fs_khz) (count_of nb) → After (shape s.fs_khz nb) G S k c (reshaped_by true s.fs_khz nb s)
  unfolding reshaped_by
  recounted q =
      let v = a.waning in
      record {
        shaped = q;
        sized = record { memory = a.sized.memory; memory16 = a.sized.memory16; room = a.sized.room };
        gained = record { is = gain_same (rate_of s.fs_khz) (count_of nb) (count_of s.nb_subfr) s.s_plc ∙ a.gained.is; from = a.gained.from; to = a.gained.to };
        waning = record { sum = v.sum; outer = v.outer; tap = v.tap; noise = v.noise; ltp = v.ltp; count = v.count };
        row = λ h. let w = a.row h in record { first = w.first; filled = w.filled; second = w.second };
      }

  -- a new rate leaves no history, no memory and no filter
  retuned : (khz : ℤ) (f : Fits (shape khz nb) (reshaped_by false khz nb s)) → After (shape khz nb) f.gain.0 S k c (reshaped_by false khz nb s)
  unfolding reshaped_by
  retuned khz f =
      let p = shape khz nb in
      let v = a.waning in
      record {
        shaped = f.shaped;
        sized = f.sized;
        gained = f.gain.1;
        waning = record { sum = le_trans (zeros-sum 16 (lpc_order p)) zero-le; outer = v.outer; tap = v.tap; noise = v.noise; ltp = v.ltp; count = v.count };
        row = λ h. row-silent p f.gain.0 (c - k) (reshaped_by false khz nb s) (zeros 16) (take-zeros (mem_length p) 480);
      }

  pub moved : (khz : ℤ) → Fits (shape khz nb) (reshaped khz nb s) → (H : ℕ) × After (shape khz nb) H S k c (reshaped khz nb s)
  unfolding reshaped
  moved khz f = go (eq_ℤ khz s.fs_khz) refl f
    where
      go : (b : Bool) → eq_ℤ khz s.fs_khz ≡ b → Fits (shape khz nb) (reshaped_by b khz nb s) → (H : ℕ) × After (shape khz nb) H S k c (reshaped_by b khz nb s)
      go true e f =
          let z = eq_ℤ_true khz s.fs_khz e in
          (G, subst (λ (x : ℤ). After (shape x nb) G S k c (reshaped_by true x nb s)) (sym z) (recounted (subst (λ (x : ℤ). Shaped (rate_of x) (count_of nb)) z f.shaped)))
      go false e f = (f.gain.0, retuned khz f)
