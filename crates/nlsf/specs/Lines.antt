-- From line frequencies (Q15) to the coefficients of a filter (RFC 6716, 4.2.7.5.6; nlsf.rs).
use Rattle.std.specs.Prelude.{ℕ, zero, suc, ◌+◌, ◌-◌, ◌*◌, ◌/◌, ◌%◌, Bool, false, cond, ◌||◌, List, [], ◌∷◌, ◌++◌, ltb, eqb, ℤ, pos, nat_abs, neg_ℤ, ◌+ℤ◌, ◌-ℤ◌, ◌*ℤ◌, get_or, length, replicate, set}
use Rattle.std.specs.Int.Signed.{lt_z}
use Rattle.word.specs.Int.{wrap32}
use Rattle.word.specs.Tabulate.{tabulate}
use Rattle.macros.specs.Fixed.{rshift_round, mul_q}
use Rattle.nlsf.specs.Table.{lsf_cos}

-- one of the first n lines is negative
unfoldable pub negative_line : List ℤ → ℕ → Bool
negative_line lines zero = false
negative_line lines (suc n) = negative_line lines n || lt_z (get_or lines n (pos 0)) (pos 0)

-- twice the cosine of a line n (Q16): the table at its high 7 bits, interpolated by its low 8
unfoldable pub lsf_cosine : ℕ → ℤ
lsf_cosine n =
    let i = n / 256 in
    rshift_round (lsf_cos i *ℤ pos 256 +ℤ (lsf_cos (i + 1) -ℤ lsf_cos i) *ℤ pos (n % 256)) (pos 4)

-- the places at which the cosines of 16 lines stand, and of 10
unfoldable pub ordering16 : List ℕ
ordering16 = 0 ∷ 15 ∷ 8 ∷ 7 ∷ 4 ∷ 11 ∷ 12 ∷ 3 ∷ 2 ∷ 13 ∷ 10 ∷ 5 ∷ 6 ∷ 9 ∷ 14 ∷ 1 ∷ []

unfoldable pub ordering10 : List ℕ
ordering10 = 0 ∷ 9 ∷ 6 ∷ 3 ∷ 4 ∷ 5 ∷ 8 ∷ 1 ∷ 2 ∷ 7 ∷ []

-- the place of line k of d
unfoldable pub ordering : ℕ → ℕ → ℕ
ordering d k = get_or (cond (eqb d 16) ordering16 ordering10) k 0

-- the cosines of the first n of d lines, each at its place of 16
unfoldable pub cosines : List ℤ → ℕ → ℕ → List ℤ
cosines lines d zero = replicate 16 (pos 0)
cosines lines d (suc n) = set (cosines lines d n) (ordering d n) (lsf_cosine (nat_abs (get_or lines n (pos 0))))

-- x + y - f z, the product rounded (Q16)
unfoldable pub poly_term : ℤ → ℤ → ℤ → ℤ → ℤ
poly_term f x y z = wrap32 (x +ℤ y -ℤ mul_q f z (pos 16))

-- a polynomial that is its own mirror image, up to its middle, and one coefficient more
unfoldable pub mirrored : List ℤ → List ℤ
mirrored p = p ++ get_or p (length p - 2) (pos 0) ∷ []

-- coefficient n of a polynomial p times 1 - f x + x ^ 2
unfoldable pub times_factor : ℤ → List ℤ → ℕ → ℤ
times_factor f p zero = get_or p 0 (pos 0)
times_factor f p (suc zero) = wrap32 (get_or p 1 (pos 0) -ℤ f)
times_factor f p (suc (suc n)) = poly_term f (get_or p (suc (suc n)) (pos 0)) (get_or p n (pos 0)) (get_or p (suc n) (pos 0))

-- the product of such factors for the cosines at the places s, s + 2, .., s + 2 k, up to its middle (Q16)
unfoldable pub poly : List ℤ → ℕ → ℕ → List ℤ
poly c s zero = pos 65536 ∷ wrap32 (neg_ℤ (get_or c s (pos 0))) ∷ []
poly c s (suc k) = tabulate (k + 3) (times_factor (get_or c (2 * k + 2 + s) (pos 0)) (mirrored (poly c s k)))

-- coefficient k of the even polynomial times 1 + x, and of the odd one times 1 - x
unfoldable pub even_term : List ℤ → ℕ → ℤ
even_term p k = wrap32 (get_or p (k + 1) (pos 0) +ℤ get_or p k (pos 0))

unfoldable pub odd_term : List ℤ → ℕ → ℤ
odd_term q k = wrap32 (get_or q (k + 1) (pos 0) -ℤ get_or q k (pos 0))

-- coefficient i of d (Q17): the first half has minus the sum of both, the second their difference
unfoldable pub lpc_coefficient : List ℤ → List ℤ → ℕ → ℕ → ℤ
lpc_coefficient p q d i =
    cond (ltb i (d / 2)) (wrap32 (neg_ℤ (odd_term q i +ℤ even_term p i))) (wrap32 (odd_term q (d - 1 - i) -ℤ even_term p (d - 1 - i)))

-- the d coefficients (Q17) of the cosines of d lines
unfoldable pub coefficients_of : List ℤ → ℕ → List ℤ
coefficients_of c d = tabulate d (lpc_coefficient (poly c 0 (d / 2 - 1)) (poly c 1 (d / 2 - 1)) d)

-- the coefficients of d lines (Q17)
unfoldable pub lpc_coefficients : List ℤ → ℕ → List ℤ
lpc_coefficients lines d = coefficients_of (cosines lines d d) d
