-- Demand 3, its second half, as an invariant of the count of losses.
use Prim.Native.Nat.{ℕ, suc, ◌+◌, ◌-◌, ◌≤◌}
use mathlib.Core.Path.{◌≡◌, refl, ap, ◌∙◌, subst}
use mathlib.Core.Bool.{Bool, true, false}
use mathlib.Core.List.{List}
use native.Mathlib.Omega.{arith}
use borrow.Author.Tests.{ltb-true, ltb-false}
use lib.Dec.{ltb}
use lib.ListN.{get_or}
use lib.IntN.{ℤ, pos}
use Rattle.word.specs.Size.{sizes, Bounded}
use Rattle.sigproc.proofs.Shrink.{sigmas}
use Rattle.shape.specs.Shape.{Shape, lpc_order}
use Rattle.shape.proofs.Shapes.{Shaped}
use Rattle.decoder.specs.declared.SilkPLCState.{SilkPLCState}
use Rattle.decoder.specs.declared.SilkDecoderState.{SilkDecoderState}
use Rattle.plc.specs.Conceal.{filter_held, later_gain, concealed}
use Rattle.quiet.specs.Bound.{quiet_bound}
use Rattle.quiet.proofs.Voice.{times}
use Rattle.quiet.proofs.Loss.{ready, AfterLoss, Left, left, Gained, Sized, Fits}
use Rattle.quiet.proofs.Wane.{Waning, waning, waning-ready}
use Rattle.quiet.proofs.Quiet.{Quiet, quiet_of}
use Rattle.quiet.proofs.Frame.{sized-after}
use Rattle.quiet.proofs.Frames.{Row, row_first, row-after, low-after}

-- c losses count, S was the sum of the coefficients' sizes before the first, and every loss that k or more count before is quiet
pub record After (p : Shape) (G S k c : ℕ) (s : SilkDecoderState) : Type 0 where
  pub shaped : Shaped p.rate p.subframes
  pub sized : Sized p s
  pub gained : Gained G (ready p s)
  pub waning : Waning p S c s s.s_plc
  pub row : k ≤ c → Row p G (c - k) s

gains_last : (h j : SilkPLCState) → j.prev_gain_q16 ≡ h.prev_gain_q16 → later_gain j ≡ later_gain h
gains_last h j e = ap (λ (gs : List ℤ). get_or gs 1 (pos 0)) e

-- the gain that a loss leaves
pub gain_after_lem : (p : Shape) (G S k c : ℕ) (s t : SilkDecoderState) → After p G S k c s → AfterLoss p s t → later_gain t.s_plc ≡ pos G
gain_after_lem p G S k c s t a l = gains_last (ready p s) t.s_plc l.gains ∙ a.gained.is

-- coefficients whose sizes add up to S are small once k losses count
pub record Falls (S k : ℕ) : Type 0 where
  pub late : 72 ≤ k
  pub small : (c : ℕ) → k ≤ c → sigmas c S ≤ 2048

module _ (p : Shape) (G S k : ℕ) (falls : Falls S k) where
  quiet : (c : ℕ) (s : SilkDecoderState) → k ≤ c → After p G S k c s → Quiet p s (ready p s)
  quiet c s h a = quiet_of p S c s (ready p s) (omega (arith, falls.late)) (falls.small c h) (waning-ready p S c s s.s_plc a.waning)

  -- one loss more
  pub after-step : (c : ℕ) (s t : SilkDecoderState) → After p G S k c s → AfterLoss p s t → After p G S k (suc c) t
  after-step c s t a e =
      record {
        shaped = a.shaped;
        sized = z;
        gained = record { is = gains_last (ready p s) (ready p t) l.gains ∙ a.gained.is; from = a.gained.from; to = a.gained.to };
        waning = waning p S s (ready p s) t t.s_plc e a.shaped.count_low c (waning-ready p S c s s.s_plc a.waning);
        row = λ h. go (ltb c k) refl h;
      }
    where
      l : Left p s (ready p s) t (ready p t)
      l = left p s t e

      z : Sized p t
      z = sized-after p s (ready p s) a.shaped a.sized t (ready p t) l

      go : (b : Bool) → ltb c k ≡ b → k ≤ suc c → Row p G (suc c - k) t
      go true e h =
          let lt = ltb-true c k e in
          let n : 0 ≡ suc c - k = omega arith in
          subst (λ (j : ℕ). Row p G j t) n (row_first p G t z.memory)
      go false e h =
          let ge = ltb-false c k e in
          let n : suc (c - k) ≡ suc c - k = omega arith in
          subst (λ (j : ℕ). Row p G j t) n
          (row-after p s (ready p s) G (c - k) a.shaped (quiet c s ge a) a.gained a.sized (a.row ge) t (ready p t) l)

  -- ten quiet frames more, and the bound holds
  pub quiet_after_ten : (c : ℕ) (s : SilkDecoderState) → k + 10 ≤ c → After p G S k c s → Bounded (quiet_bound G) (concealed p s (ready p s))
  quiet_after_ten c s h a =
      low-after p s (ready p s) G (c - k) a.shaped (quiet c s (omega arith) a) a.gained a.sized (a.row (omega arith)) (omega arith)

  -- any state that a loss may find, with its sum of sizes
  pub start : (s : SilkDecoderState) (f : Fits p s) → f.gain.0 ≡ G → sizes (filter_held s s.s_plc) (lpc_order p) ≤ S → After p G S k 0 s
  unfolding sigmas times
  start s f e h =
      record {
        shaped = f.shaped;
        sized = f.sized;
        gained = subst (λ (x : ℕ). Gained x (ready p s)) e f.gain.1;
        waning = record {
          sum = h;
          outer = f.outer;
          tap = f.tap;
          noise = f.noise;
          ltp = f.ltp;
          count = (f.count.0, f.count.1, omega arith);
        };
        row = λ h. absurd (omega (arith, falls.late));
      }
