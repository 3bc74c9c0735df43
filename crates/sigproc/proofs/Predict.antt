-- One sample of the short-term filter whose coefficients' sizes add up to at most 2,048. No sum wraps, and the seed, half the order,
-- halves what the products' rounding down can add up to.
use Rattle.std.proofs.Common.{◌≡◌, ℕ, zero, suc, ◌+◌, ◌-◌, ◌*◌, ◌/◌, ◌^◌, ◌<◌, ◌≤◌, List, get_or, ℤ, pos, ◌+ℤ◌, ◌*ℤ◌, nat_abs, sym, ap, ◌∙◌, le_trans, mul-le-mul_right, mul-le-mul_left, arith, w16, w32, w64}
use Rattle.word.specs.Int.{floor_div, wrap32, wrap64, sat32}
use Rattle.word.specs.Size.{size_at, sizes}
use Rattle.word.proofs.Ring.{+ℤ_right_comm}
use Rattle.word.proofs.Parts.{P, N, add_parts, div_parts}
use Rattle.word.proofs.Words.{wrap_id, wrap_add_l}
use Rattle.word.proofs.Sizes.{abs-parts, abs_le, abs-add, abs-mul, abs-wrap, abs-clamp, abs-fits}
use Rattle.macros.specs.Fixed.{smulwb, smlawb, lshift_sat32}
use Rattle.sigproc.specs.Synthesis.{prediction, synthesised}

-- two products may be added in either order
pub smlawb_swap : (x y z v w : ℤ) → smlawb (smlawb x y z) v w ≡ smlawb (smlawb x v w) y z
unfolding smlawb
smlawb_swap x y z v w =
    let a = smulwb y z in
    let b = smulwb v w in
    wrap_add_l w32 (x +ℤ a) b ∙ ap wrap32 (+ℤ_right_comm x a b) ∙ sym (wrap_add_l w32 (x +ℤ b) a)

-- a product and a sum that fit are exact
pub smlawb-exact : (x y z : ℤ) → nat_abs z < 2 ^ 15 → nat_abs (floor_div (y *ℤ z) (2 ^ 16)) < 2 ^ 31 → nat_abs (x +ℤ floor_div (y *ℤ z) (2 ^ 16)) < 2 ^ 31
    → smlawb x y z ≡ x +ℤ floor_div (y *ℤ z) (2 ^ 16)
unfolding smlawb smulwb
smlawb-exact x y z hz hq hs =
    rw (wrap_id {w = w16} {z = z} (abs-fits z hz), wrap_id {w = w32} {z = floor_div (y *ℤ z) (2 ^ 16)} (abs-fits _ hq))
    (wrap_id {w = w32} {z = x +ℤ floor_div (y *ℤ z) (2 ^ 16)} (abs-fits _ hs))

-- the sum so far, p, from the seed c: above it by the products, below it by the products and one for each rounding
abbrev pub Within : ℤ → ℕ → ℕ → ℕ → Type 0
Within p c j T = (65536 * P p ≤ 65536 * N p + 65536 * c + T) × (65536 * N p + 65536 * c ≤ 65536 * P p + T + 65535 * j)

step : (p y z : ℤ) (c j T M : ℕ) → c ≤ 8 → j < 16 → nat_abs y ≤ M → nat_abs z ≤ 2048 → T + M * nat_abs z ≤ 2 ^ 42 → Within p c j T
    → Within (smlawb p y z) c (suc j) (T + M * nat_abs z)
step p y z c j T M hc hj hy hz hT h =
    let q = floor_div (y *ℤ z) (2 ^ 16) in
    let m : nat_abs (y *ℤ z) ≤ M * nat_abs z = rw (abs-mul y z) (mul-le-mul_right (nat_abs z) hy) in
    let d = div_parts (y *ℤ z) (2 ^ 16) (omega arith) in
    let a = abs-parts (y *ℤ z) in
    let k = add_parts p q in
    let q1 : 65536 * P q ≤ 65536 * N q + M * nat_abs z = omega arith in
    let q2 : 65536 * N q ≤ 65536 * P q + M * nat_abs z + 65535 = omega arith in
    let s1 : 65536 * P (p +ℤ q) ≤ 65536 * N (p +ℤ q) + 65536 * c + (T + M * nat_abs z) = omega (arith, h.0) in
    let s2 : 65536 * N (p +ℤ q) + 65536 * c ≤ 65536 * P (p +ℤ q) + (T + M * nat_abs z) + 65535 * suc j = omega (arith, h.1) in
    let fq : nat_abs q ≤ 2 ^ 27 = abs_le q (2 ^ 27) (omega arith) (omega arith) in
    let fs : nat_abs (p +ℤ q) ≤ 2 ^ 27 = abs_le (p +ℤ q) (2 ^ 27) (omega arith) (omega arith) in
    rw (smlawb-exact p y z (omega arith) (omega arith) (omega arith)) (s1, s2)

module _ (s a : List ℤ) (d at M : ℕ) (hd : d ≤ 16) (hM : M ≤ 2 ^ 31) where
  within : (j : ℕ) → j ≤ 16 → sizes a j ≤ 2048 → ((i : ℕ) → i < j → size_at s (at - 1 - i) ≤ M) → Within (prediction s a d at j) (d / 2) j (M * sizes a j)
  unfolding prediction sizes
  within zero hj hS hs = (omega arith, omega arith)
  within (suc j) hj hS hs =
      let ih = within j (omega arith) (omega arith) (λ i hi. hs i (omega arith)) in
      let e : M * (sizes a j + size_at a j) ≡ M * sizes a j + M * size_at a j = omega arith in
      let t : M * (sizes a j + size_at a j) ≤ 2 ^ 42 = le_trans (mul-le-mul_left M hS) (mul-le-mul_right 2048 hM) in
      rw e (step (prediction s a d at j) (get_or s (at - 1 - j) (pos 0)) (get_or a j (pos 0)) (d / 2) j (M * sizes a j) M (omega arith) (omega arith) (hs j (omega arith)) (omega arith) (omega arith) ih)

  module _ (hS : sizes a d ≤ 2048) (hs : (i : ℕ) → i < d → size_at s (at - 1 - i) ≤ M) where
    -- the prediction, from a bound on the samples that it reads
    pub predicted : 32 * nat_abs (prediction s a d at d) ≤ 256 + M
    predicted =
        let p = prediction s a d at d in
        let w = within d hd hS hs in
        let t : M * sizes a d ≤ M * 2048 = mul-le-mul_left M hS in
        let b : nat_abs p ≤ (256 + M) / 32 = abs_le p ((256 + M) / 32) (omega arith) (omega arith) in
        omega arith

    -- the sample
    pub sampled : (u : ℤ) → nat_abs (synthesised u (prediction s a d at d)) ≤ nat_abs u + 128 + M / 2
    unfolding synthesised lshift_sat32
    sampled u =
        let p = prediction s a d at d in
        let b = predicted in
        let z = p *ℤ pos (2 ^ 4) in
        let m : nat_abs z ≡ nat_abs p * 16 = abs-mul p (pos (2 ^ 4)) in
        let w = wrap64 z in
        let k1 = abs-wrap w64 z in
        let k2 = abs-clamp 2147483647 w in
        let k3 = abs-add u (sat32 w) in
        let k4 = abs-clamp 2147483647 (u +ℤ sat32 w) in
        omega arith
