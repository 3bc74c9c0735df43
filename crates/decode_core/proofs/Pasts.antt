-- The long-term state: rewhitened, adjusted to a gain, and synthesised.
use Prim.Native.Nat.{ℕ, zero, suc, ◌+◌, ◌-◌, ◌^◌, ◌<◌, ◌≤◌}
use mathlib.Core.Path.{◌≡◌, refl, ap, ◌∙◌}
use mathlib.Core.List.{List, [], ◌∷◌, ◌++◌, map}
use native.Mathlib.Omega.{arith}
use lib.IntN.{ℤ, pos, ◌*ℤ◌}
use lib.ListN.{length, get_or, set, take, drop}
use lib.Seq.{drop-cons, get_or_at, length-take-le}
use mir.Syntax.{w32}
use mir.Val.{SFits}
use Rattle.word.specs.Int.{floor_div, wrap32}
use Rattle.word.specs.Tabulate.{tabulate}
use Rattle.word.proofs.Fits.{AllFit}
use Rattle.word.proofs.Parts.{eq_parts, mul-parts, div_parts}
use Rattle.word.proofs.Words.{wrap_id}
use Rattle.word.proofs.Lists.{length_snoc, length-tabulate, grow}
use Rattle.macros.specs.Fixed.{smulww, add_lshift32}
use Rattle.sigproc.specs.Synthesis.{ltp_prediction}
use Rattle.sigproc.proofs.InPlace.{ltp_front}
use Rattle.decode_core.specs.Core.{ltp_sample, ltp_past, ltp_synthesis}

-- what a loop that fills a list from the front reads is as it was
pub table-read : (f : ℕ → ℤ) (d : List ℤ) (i : ℕ) (out : List ℤ) → i < length d → out ≡ tabulate i f ++ drop i d → get_or out i (pos 0) ≡ get_or d i (pos 0)
table-read f d i out h e =
    ap (λ (x : List ℤ). get_or x i (pos 0)) (e ∙ ap (λ (r : List ℤ). tabulate i f ++ r) (drop-cons d i (pos 0) h))
    ∙ get_or_at (tabulate i f) _ _ (pos 0) i (length-tabulate i f)

-- an adjustment by one
one : (x : ℤ) → SFits w32 x → smulww (pos 65536) x ≡ x
unfolding smulww
one x h =
    let y = pos 65536 *ℤ x in
    let e : floor_div y (2 ^ 16) ≡ x = eq_parts (floor_div y (2 ^ 16)) x (omega (arith, div_parts y (2 ^ 16) (omega arith), mul-parts (pos 65536) x)) in
    rw e (wrap_id {w = w32} {z = x} h)

pub unadjusted : (xs : List ℤ) → AllFit w32 xs → map (smulww (pos 65536)) xs ≡ xs
unadjusted [] h = refl
unadjusted (x ∷ xs) h =
    let a = one x (h 0) in
    let b = unadjusted xs (λ i. h (suc i)) in
    cc

-- ---- the synthesis in place: what it has made, and the rest as it was
module _ (whole taps e : List ℤ) (idx lag : ℕ) where
  pub length-ltp_past : (n : ℕ) → length (ltp_past whole taps lag e n) ≡ length whole + n
  unfolding ltp_past
  length-ltp_past zero = omega arith
  length-ltp_past (suc n) = let q = ltp_past whole taps lag e n in length_snoc q _ ∙ omega (arith, length-ltp_past n)

  pub length-ltp_synthesis : (n : ℕ) → length (ltp_synthesis whole taps lag e n) ≡ n
  unfolding ltp_synthesis
  length-ltp_synthesis zero = refl
  length-ltp_synthesis (suc n) = length_snoc (ltp_synthesis whole taps lag e n) _ ∙ ap suc (length-ltp_synthesis n)

module _ (whole taps e : List ℤ) (idx lag i : ℕ) (h : idx + i < length whole) (k : i < length e) where
  before : List ℤ
  before = ltp_past (take idx whole) taps lag e i

  length_before : length before ≡ idx + i
  unfolding before
  length_before = length-ltp_past (take idx whole) taps e idx lag i ∙ ap (λ (n : ℕ). n + i) (length-take-le idx whole (omega arith))

  pub ltp_value : (past res : List ℤ) → 3 ≤ lag → lag ≤ idx → past ≡ ltp_past (take idx whole) taps lag e i ++ drop (idx + i) whole
      → res ≡ ltp_synthesis (take idx whole) taps lag e i ++ drop i e
      → add_lshift32 (get_or res i (pos 0)) (ltp_prediction past taps (idx + i - lag + 2) 5) (pos 1) ≡ ltp_sample (ltp_past (take idx whole) taps lag e i) taps lag (get_or e i (pos 0))
  unfolding ltp_sample before
  ltp_value past res a b p r =
      let s = ltp_synthesis (take idx whole) taps lag e i in
      let u : get_or (s ++ drop i e) i (pos 0) ≡ get_or e i (pos 0) =
      ap (λ (x : List ℤ). get_or (s ++ x) i (pos 0)) (drop-cons e i (pos 0) k) ∙ get_or_at s _ _ (pos 0) i (length-ltp_synthesis (take idx whole) taps e idx lag i) in
      let l = length_before in
      rw (p, r, u, l, ltp_front before (drop (idx + i) whole) taps (idx + i - lag + 2) 5 (omega arith))

  pub ltp_past-turn : (past : List ℤ) → past ≡ ltp_past (take idx whole) taps lag e i ++ drop (idx + i) whole
      → set past (idx + i) (wrap32 (ltp_sample (ltp_past (take idx whole) taps lag e i) taps lag (get_or e i (pos 0)) *ℤ pos 2))
      ≡ ltp_past (take idx whole) taps lag e (suc i) ++ drop (suc (idx + i)) whole
  unfolding ltp_past before
  ltp_past-turn past p = rw p (grow before whole (idx + i) _ length_before h)

  pub ltp_res_turn : (res : List ℤ) → res ≡ ltp_synthesis (take idx whole) taps lag e i ++ drop i e
      → set res i (ltp_sample (ltp_past (take idx whole) taps lag e i) taps lag (get_or e i (pos 0)))
      ≡ ltp_synthesis (take idx whole) taps lag e (suc i) ++ drop (suc i) e
  unfolding ltp_synthesis
  ltp_res_turn res r =
      rw r (grow (ltp_synthesis (take idx whole) taps lag e i) e i _ (length-ltp_synthesis (take idx whole) taps e idx lag i) k)
