-- Coefficients of 32 bits (Q17) made to fit 16 (Q12) (lpc_fit.rs).
use Rattle.std.specs.Prelude.{ℕ, zero, suc, min, ◌-◌, ◌*◌, ◌/◌, ◌^◌, cond, List, map, ℤ, pos, nat_abs, ◌-ℤ◌, ◌*ℤ◌, get_or, length}
use Rattle.std.specs.Int.Signed.{lt_z}
use Rattle.word.specs.Int.{wrap16, wrap32, sat16}
use Rattle.macros.specs.Fixed.{rshift_round}
use Rattle.nlsf.specs.declared.Largest.{Largest}
use Rattle.nlsf.specs.Expand.{bwexpander32}

-- coefficients in Q12, and those in Q17 that they come from
pub record Fit : Type 0 where
  pub q12 : List ℤ
  pub q17 : List ℤ

-- the larger of what was found before and a size v at place k, the first of equals
unfoldable pub higher : Largest → ℤ → ℕ → Largest
higher p v k = cond (lt_z p.size v) (record { size = v; place = k }) p

-- the largest of the first n numbers of a list by a size f, and its place, the first if several are; 0 at place 0 if no size is above 0
unfoldable pub largest_by : (ℤ → ℤ) → List ℤ → ℕ → Largest
largest_by f a zero = record { size = pos 0; place = 0 }
largest_by f a (suc n) = higher (largest_by f a n) (f (get_or a n (pos 0))) n

-- the largest of the first n coefficients without their signs; the least number has a negative size
abbrev pub maxabs : List ℤ → ℕ → Largest
maxabs a n = largest_by (λ x. wrap32 (pos (nat_abs x))) a n

-- the chirp (Q16) for a largest coefficient of size m (Q12) at place k
unfoldable pub fit_chirp : ℕ → ℕ → ℤ
fit_chirp m k = pos 65470 -ℤ pos ((m - 32767) * 2 ^ 14 / (m * suc k / 4))

-- a coefficient in Q12
unfoldable pub in_q12 : ℤ → ℤ
in_q12 x = rshift_round x (pos 5)

-- the low 16 bits of each coefficient in Q12
unfoldable pub rounded : List ℤ → List ℤ
rounded a = map (λ x. wrap16 (in_q12 x)) a

-- the nearest number of 16 bits to each coefficient in Q12, and the same in Q17
unfoldable pub saturated : List ℤ → Fit
saturated a =
    record { q12 = map (λ x. sat16 (in_q12 x)) a; q17 = map (λ x. sat16 (in_q12 x) *ℤ pos (2 ^ 5)) a }

-- at most n rounds of bandwidth expansion until the largest coefficient fits, then saturation
unfoldable pub lpc_fit : ℕ → List ℤ → Fit
lpc_fit zero a = saturated a
lpc_fit (suc n) a =
    let p = maxabs a (length a) in
    let m = in_q12 p.size in
    let next = lpc_fit n (bwexpander32 (fit_chirp (min (nat_abs m) 163838) p.place) a) in
    cond (lt_z (pos 32767) m) next (record { q12 = rounded a; q17 = a })
