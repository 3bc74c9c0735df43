-- The filter from lines passes its own edition's test: the chirp of the last round is 0, and leaves no coefficient.
use Prim.Native.Nat.{ℕ, zero, suc, ◌+◌, ◌*◌, ◌^◌}
use mathlib.Core.Path.{◌≡◌, refl, sym, ap, ◌∙◌}
use mathlib.Core.Logic.{◌⊎◌, inl, inr}
use mathlib.Core.Bool.{Bool, true, false, cond, false≢true}
use mathlib.Core.List.{List, [], ◌∷◌, ◌++◌, map, map-append}
use native.Mathlib.Omega.{arith}
use lib.Count.{count_leading_zeros}
use lib.IntN.{ℤ, pos, negsuc, nat_abs, neg_ℤ, ◌*ℤ◌}
use lib.ListN.{get_or, length, take, drop}
use lib.Seq.{take_at}
use Rattle.word.specs.Int.{eq_ℤ, wrap, clamp, wrap16}
use Rattle.word.specs.Tabulate.{tabulate}
use Rattle.word.proofs.Lists.{tabulate_cong}
use Rattle.edition.specs.Edition.{older, newer}
use Rattle.edition.proofs.Editions.{one_of_two}
use Rattle.macros.specs.Fixed.{smmul, smulww, smulwb, smlaww, lshift_sat32, round_shift, rshift_round, rshift_round64, mul_q, clz32}
use Rattle.macros.specs.Quotient.{headroom, shift_up, shift_down, normal, first_inverse, second_inverse, inverse32_varq}
use Rattle.std.specs.Prelude.{Ok, Err}
use Rattle.refusal.specs.Refusals.{Judged, code_of, if_accepted}
use Rattle.stability.specs.Stability.{Stability, a_limit, reflection, rc_mult1, rc_mult2, next_gain, bit_length, step_down, stepped, next_coefficients, fits32, all_fit, goes_on, step, and_then, steps, total, stability_by, stability, inverse_gain, answer_number}
use Rattle.nlsf.specs.Lines.{lpc_coefficients}
use Rattle.nlsf.specs.Expand.{next_factor, factor32, bwexpander32}
use Rattle.nlsf.specs.Fit.{Fit, in_q12, rounded, lpc_fit}
use Rattle.nlsf.specs.Filter.{round_chirp, expanded, stabilised, nlsf2a, nlsf2a_of}
use Rattle.editions.specs.Filters.{StableFilter}
use Rattle.nlsf.proofs.Accepted.{accepted}
use Rattle.nlsf.proofs.Rounds.{length-bwexpander32}
use Rattle.nlsf.proofs.Results.{fit_length, length-nlsf2a}

-- a chirp of 0 leaves nothing
factor_0 : (j : ℕ) → factor32 (pos 0) j ≡ pos 0
unfolding factor32 next_factor wrap rshift_round round_shift
factor_0 zero = refl
factor_0 (suc j) = rw (factor_0 j) refl

times_0 : (x : ℤ) → smulww (pos 0) x ≡ pos 0
unfolding smulww wrap
times_0 x = rw (zero-mul x) refl
  where
    zero-mul : (x : ℤ) → pos 0 *ℤ x ≡ pos 0
    zero-mul (pos n) = let e : 0 * n ≡ 0 = omega arith in ap pos e
    zero-mul (negsuc n) = let e : 0 * suc n ≡ 0 = omega arith in ap (λ (m : ℕ). neg_ℤ (pos m)) e

map-zeros : (n : ℕ) → map (λ x. wrap16 (in_q12 x)) (tabulate n (λ j. pos 0)) ≡ tabulate n (λ j. pos 0)
unfolding tabulate in_q12 rshift_round round_shift wrap
map-zeros zero = refl
map-zeros (suc n) = map-append _ (tabulate n (λ j. pos 0)) (pos 0 ∷ []) ∙ ap (λ (xs : List ℤ). xs ++ pos 0 ∷ []) (map-zeros n)

nothing_left : (a : List ℤ) → rounded (bwexpander32 (round_chirp 15) a) ≡ tabulate (length a) (λ j. pos 0)
unfolding rounded bwexpander32 round_chirp
nothing_left a =
    ap (map (λ x. wrap16 (in_q12 x))) (tabulate_cong (length a) _ _ (λ j h. ap (λ (f : ℤ). smulww f (get_or a j (pos 0))) (factor_0 j) ∙ times_0 (get_or a j (pos 0)))) ∙ map-zeros (length a)

-- the test finds a gain
abbrev Passes : ℤ → List ℤ → Type 0
Passes e a = inverse_gain (stability e a) ≡ pos 0 → ⊥

silent : (e : ℤ) (d : ℕ) → (e ≡ older) ⊎ (e ≡ newer) → (d ≡ 10) ⊎ (d ≡ 16) → inverse_gain (stability e (tabulate d (λ j. pos 0))) ≡ pos (2 ^ 30)
unfolding count_leading_zeros wrap clamp tabulate smmul smulww smulwb smlaww lshift_sat32 round_shift rshift_round64 clz32 headroom shift_up shift_down normal first_inverse second_inverse inverse32_varq a_limit reflection rc_mult1 rc_mult2 next_gain bit_length mul_q step_down stepped next_coefficients fits32 all_fit goes_on step and_then steps total stability_by stability inverse_gain
silent e d (inl p) (inl q) = rw (p, q) refl
silent e d (inl p) (inr q) = rw (p, q) refl
silent e d (inr p) (inl q) = rw (p, q) refl
silent e d (inr p) (inr q) = rw (p, q) refl

module _ (e : ℤ) (d : ℕ) (edition : (e ≡ older) ⊎ (e ≡ newer)) (order : (d ≡ 10) ⊎ (d ≡ 16)) where
  -- one of two, by the test of the second
  pick : (b : Bool) (x f : Fit) → eq_ℤ (inverse_gain (stability e f.q12)) (pos 0) ≡ b → Passes e x.q12 → Passes e (cond b x f).q12
  pick true x f t h = h
  pick false x f t h = λ k. false≢true (sym t ∙ ap (λ (z : ℤ). eq_ℤ z (pos 0)) k)

  last-passes : (i : ℕ) (f : Fit) → i ≡ 15 → length f.q17 ≡ d → Passes e (expanded i f).q12
  last-passes i f s l k =
      let z : rounded (bwexpander32 (round_chirp i) f.q17) ≡ tabulate d (λ j. pos 0) =
      ap (λ (i : ℕ). rounded (bwexpander32 (round_chirp i) f.q17)) s ∙ nothing_left f.q17 ∙ ap (λ (n : ℕ). tabulate n (λ j. pos 0)) l in
      let n : 2 ^ 30 ≡ 0 = ap nat_abs (sym (silent e d edition order) ∙ ap (λ (a : List ℤ). inverse_gain (stability e a)) (sym z) ∙ k) in
      absurd (omega arith)

  -- round i, with n rounds after it
  rounds-pass : (n i : ℕ) (f : Fit) → n + i ≡ 15 → length f.q17 ≡ d → Passes e (stabilised e (suc n) i f).q12
  unfolding stabilised
  rounds-pass zero i f s l = pick (eq_ℤ (inverse_gain (stability e f.q12)) (pos 0)) (expanded i f) f refl (last-passes i f (omega arith) l)
  rounds-pass (suc n) i f s l =
      pick (eq_ℤ (inverse_gain (stability e f.q12)) (pos 0)) (stabilised e (suc n) (suc i) (expanded i f)) f refl
      (rounds-pass n (suc i) (expanded i f) (omega arith) (length-bwexpander32 (round_chirp i) f.q17 ∙ l))

gained : (s : Stability) → (inverse_gain s ≡ pos 0 → ⊥) → answer_number s ≡ 0
unfolding inverse_gain answer_number
gained (Ok g) n = refl
gained (Err why) n = absurd (n refl)

pub stable_filter : StableFilter
unfolding nlsf2a_of nlsf2a
stable_filter out lines d e r =
    let h = accepted (length out) lines d e (ap code_of r) in
    ap (λ (r : Judged). answer_number (stability e (take d (if_accepted r (nlsf2a e lines d ++ drop d out) out)))) r
    ∙ ap (λ (a : List ℤ). answer_number (stability e a)) (take_at (nlsf2a e lines d) (drop d out) d (length-nlsf2a e lines d))
    ∙ gained _ (rounds-pass e d (one_of_two e h.4) h.0 15 0 (lpc_fit 10 (lpc_coefficients lines d)) refl (fit_length lines d))
