-- The filter from lines (nlsf.rs, silk_nlsf2a).
use Rattle.std.specs.Prelude.{ℕ, zero, suc, ◌^◌, Bool, cond, not, ◌&&◌, ◌||◌, List, [], ◌∷◌, ◌++◌, ltb, eqb, ℤ, pos, ◌-ℤ◌, length, drop}
use Rattle.word.specs.Int.{eq_ℤ}
use Rattle.stability.specs.Stability.{stability, inverse_gain}
use Rattle.edition.specs.Edition.{is_edition}
use Rattle.refusal.specs.First.{◌gives◌, first_of}
use Rattle.refusal.specs.Refusals.{Judged, if_accepted}
use Rattle.refusal.specs.declared.Refusal.TheVariants.{Line, Order, Edition}
use Rattle.nlsf.specs.Lines.{negative_line, lpc_coefficients}
use Rattle.nlsf.specs.Expand.{bwexpander32}
use Rattle.nlsf.specs.Fit.{Fit, rounded, lpc_fit}

-- the chirp (Q16) of round i
unfoldable pub round_chirp : ℕ → ℤ
round_chirp i = pos 65536 -ℤ pos (2 ^ suc i)

-- round i of bandwidth expansion
abbrev pub expanded : ℕ → Fit → Fit
expanded i f = let a = bwexpander32 (round_chirp i) f.q17 in record { q12 = rounded a; q17 = a }

-- at most n rounds, from round i on, until the coefficients in Q12 are stable under an edition
unfoldable pub stabilised : ℤ → ℕ → ℕ → Fit → Fit
stabilised e zero i f = f
stabilised e (suc n) i f =
    cond (eq_ℤ (inverse_gain (stability e f.q12)) (pos 0)) (stabilised e n (suc i) (expanded i f)) f

-- the coefficients (Q12) of the first d lines under an edition
unfoldable pub nlsf2a : ℤ → List ℤ → ℕ → List ℤ
nlsf2a e lines d = (stabilised e 16 0 (lpc_fit 10 (lpc_coefficients lines d))).q12

-- row 13: an order d not 10 or 16, or a slice of n or m numbers shorter than it
abbrev pub order_refused : ℕ → ℕ → ℕ → Bool
order_refused n m d = not (eqb d 10) && not (eqb d 16) || ltb n d || ltb m d

-- why the filter from lines refuses a slice of n numbers for the coefficients: row 13 before row 9, then row 22
unfoldable pub nlsf2a_refusal : ℕ → List ℤ → ℕ → ℤ → Judged
nlsf2a_refusal n lines d e =
    first_of ((order_refused n (length lines) d gives Order) ∷ (negative_line lines d gives Line) ∷ (not (is_edition e) gives Edition) ∷ [])

-- what it leaves in that slice: the coefficients and the rest as it was, all as it was if it refuses
unfoldable pub nlsf2a_of : List ℤ → List ℤ → ℕ → ℤ → List ℤ
nlsf2a_of out lines d e = if_accepted (nlsf2a_refusal (length out) lines d e) (nlsf2a e lines d ++ drop d out) out
