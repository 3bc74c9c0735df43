-- SILK's quotients in a given Q over the integers (macros.rs).
use Rattle.std.specs.Prelude.{◌^◌, cond, ℤ, pos, nat_abs, neg_ℤ, ◌+ℤ◌, ◌-ℤ◌, ◌*ℤ◌}
use Rattle.std.specs.Int.Signed.{lt_z, le_z, quot_z}
use Rattle.word.specs.Int.{floor_div, mod_ℤ, eq_ℤ, wrap32}
use Rattle.macros.specs.Fixed.{smulwb, smlawb, smlaww, smmul, clz32, lshift_sat32}

-- the places that a word can be shifted up by and keep its sign: -1 for the least number, 31 for 0
unfoldable pub headroom : ℤ → ℤ
headroom b = pos (clz32 (wrap32 (pos (nat_abs b)))) -ℤ pos 1

-- b shifted up by h places, or down by -h
unfoldable pub shift_up : ℤ → ℤ → ℤ
shift_up b h = cond (lt_z h (pos 0)) (floor_div b (2 ^ mod_ℤ (neg_ℤ h) 32)) (wrap32 (b *ℤ pos (2 ^ mod_ℤ h 32)))

-- r shifted down by s places, or up by -s within 32 bits
unfoldable pub shift_down : ℤ → ℤ → ℤ
shift_down r s = cond (le_z s (pos 0)) (lshift_sat32 r (neg_ℤ s)) (cond (lt_z s (pos 32)) (floor_div r (2 ^ mod_ℤ s 32)) (pos 0))

-- b with its highest bit at place 30
unfoldable pub normal : ℤ → ℤ
normal b = shift_up b (headroom b)

-- the first approximation of the inverse of a normal n, from its high 16 bits
unfoldable pub first_inverse : ℤ → ℤ
first_inverse n = quot_z (pos 536870911) (floor_div n (2 ^ 16))

-- the second, by one step of Newton's method from the first, i
unfoldable pub second_inverse : ℤ → ℤ → ℤ
second_inverse n i =
    smlaww (wrap32 (i *ℤ pos (2 ^ 16))) (wrap32 (wrap32 (pos 536870912 -ℤ smulwb n i) *ℤ pos (2 ^ 3))) i

-- the inverse of b in Q q, about 2 ^ q / b; the largest number for 0
unfoldable pub inverse32_varq : ℤ → ℤ → ℤ
inverse32_varq b q =
    cond (eq_ℤ b (pos 0)) (pos 2147483647)
    (shift_down (second_inverse (normal b) (first_inverse (normal b))) (wrap32 (wrap32 (pos 61 -ℤ headroom b) -ℤ q)))

-- the quotient of two normal numbers, from the first inverse i of n
unfoldable pub normal_quotient : ℤ → ℤ → ℤ → ℤ
normal_quotient m n i =
    smlawb (smulwb m i) (wrap32 (m -ℤ wrap32 (smmul n (smulwb m i) *ℤ pos (2 ^ 3)))) i

-- the quotient of a and b in Q q, about a * 2 ^ q / b
unfoldable pub div32_varq : ℤ → ℤ → ℤ → ℤ
div32_varq a b q =
    shift_down (normal_quotient (normal a) (normal b) (first_inverse (normal b)))
    (wrap32 (wrap32 (wrap32 (pos 29 +ℤ headroom a) -ℤ headroom b) -ℤ q))
