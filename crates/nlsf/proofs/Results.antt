-- The filter from lines: as many coefficients as the order, each of 16 bits.
use Prim.Native.Nat.{ℕ, zero, suc, min}
use mathlib.Core.Path.{◌≡◌, refl, ◌∙◌}
use mathlib.Core.Bool.{Bool, true, false, cond}
use mathlib.Core.List.{List}
use lib.IntN.{ℤ, pos, nat_abs}
use lib.ListN.{length, length-map}
use lib.Signed.{lt_z}
use mir.Syntax.{w16}
use Rattle.word.specs.Int.{eq_ℤ}
use Rattle.word.proofs.Fits.{AllFit, map-fits}
use Rattle.word.proofs.Order.{sat16-fits}
use Rattle.word.proofs.Words.{wrap-fits}
use Rattle.stability.specs.Stability.{stability, inverse_gain}
use Rattle.nlsf.specs.Lines.{lpc_coefficients}
use Rattle.nlsf.specs.Expand.{bwexpander32}
use Rattle.nlsf.specs.Fit.{Fit, maxabs, fit_chirp, in_q12, rounded, saturated, lpc_fit}
use Rattle.nlsf.specs.Filter.{round_chirp, expanded, stabilised, nlsf2a}
use Rattle.nlsf.proofs.Polynomials.{length-coefficients}
use Rattle.nlsf.proofs.Rounds.{length-bwexpander32}

abbrev Sound : ℕ → Fit → Type 0
Sound d f = (length f.q12 ≡ d) × (length f.q17 ≡ d) × AllFit w16 f.q12

rounded-sound : (a : List ℤ) → Sound (length a) (record { q12 = rounded a; q17 = a })
unfolding rounded
rounded-sound a = (length-map a _, refl, map-fits _ a (λ x. wrap-fits w16 _))

-- one of two
either : (b : Bool) (d : ℕ) (f g : Fit) → Sound d f → Sound d g → Sound d (cond b f g)
either true d f g h k = h
either false d f g h k = k

fit-sound : (n : ℕ) (a : List ℤ) (d : ℕ) → length a ≡ d → Sound d (lpc_fit n a)
unfolding lpc_fit saturated
fit-sound zero a d e = (length-map a _ ∙ e, length-map a _ ∙ e, map-fits _ a (λ x. sat16-fits _))
fit-sound (suc n) a d e =
    let p = maxabs a (length a) in
    let m = in_q12 p.size in
    let b = bwexpander32 (fit_chirp (min (nat_abs m) 163838) p.place) a in
    either (lt_z (pos 32767) m) d (lpc_fit n b) (record { q12 = rounded a; q17 = a })
    (fit-sound n b d (length-bwexpander32 _ a ∙ e)) (rw (← e) (rounded-sound a))

pub fit_length : (lines : List ℤ) (d : ℕ) → length (lpc_fit 10 (lpc_coefficients lines d)).q17 ≡ d
fit_length lines d = (fit-sound 10 (lpc_coefficients lines d) d (length-coefficients lines d)).1

rounds_sound : (e : ℤ) (n i : ℕ) (f : Fit) (d : ℕ) → Sound d f → Sound d (stabilised e n i f)
unfolding stabilised
rounds_sound e zero i f d h = h
rounds_sound e (suc n) i f d h =
    let a = bwexpander32 (round_chirp i) f.q17 in
    let l : length a ≡ d = length-bwexpander32 (round_chirp i) f.q17 ∙ h.1 in
    either (eq_ℤ (inverse_gain (stability e f.q12)) (pos 0)) d (stabilised e n (suc i) (expanded i f)) f
    (rounds_sound e n (suc i) (expanded i f) d (rw (← l) (rounded-sound a))) h

whole : (e : ℤ) (lines : List ℤ) (d : ℕ) → Sound d (stabilised e 16 0 (lpc_fit 10 (lpc_coefficients lines d)))
whole e lines d = rounds_sound e 16 0 _ d (fit-sound 10 (lpc_coefficients lines d) d (length-coefficients lines d))

pub length-nlsf2a : (e : ℤ) (lines : List ℤ) (d : ℕ) → length (nlsf2a e lines d) ≡ d
unfolding nlsf2a
length-nlsf2a e lines d = (whole e lines d).0
