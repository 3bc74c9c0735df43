-- The excitation is 64 times the standard's (RFC 6716, 4.2.7.8.6).
use Prim.Native.Nat.{ℕ, zero, suc, ◌+◌, ◌*◌, ◌-◌, ◌%◌, ◌^◌, ◌<◌, ◌≤◌}
use mathlib.Core.Path.{◌≡◌, refl, sym, ap, ◌∙◌}
use mathlib.Core.Bool.{Bool, true, false, cond}
use mathlib.Core.List.{List, [], ◌∷◌, ◌++◌, map, map-append}
use native.Mathlib.Nat.{mod-eq_of_lt}
use native.Mathlib.Omega.{arith}
use borrow.Author.Tests.{lt-leb, le-leb, le-ltb}
use lib.Dec.{leb, lit<}
use lib.IntN.{ℤ, pos, negsuc, nat_abs, neg_ℤ, ◌+ℤ◌, ◌-ℤ◌, ◌*ℤ◌, +ℤ_comm, *ℤ_comm, pos-ne-negsuc}
use lib.ListN.{get_or}
use lib.Signed.{lt_z}
use mir.Syntax.{w32}
use mir.Val.{SFits}
use Rattle.word.specs.Int.{mod_ℤ}
use Rattle.word.proofs.Mod.{mod_add_l, mod_mul_l}
use Rattle.word.proofs.Parts.{eq_parts, add_parts, sub_parts_ℤ, mul-parts}
use Rattle.word.proofs.Ring.{neg_ℤ-*ℤ}
use Rattle.word.proofs.Words.{mod-wrap}
use Rattle.macros.specs.Fixed.{rand}
use Rattle.macros.proofs.Ranges.{rand-fits}
use Rattle.excitation.specs.Excitation.{offset_q14, level, excited, generator_at, excitation}
use Rattle.excitation.specs.Rfc.{offset_q23, sign, next_seed, reconstructed, seed_at, excitation_q23}
use Rattle.excitation.specs.Standard.{standard64}

-- ---- the generator
next-is : (g : ℤ) → next_seed (mod_ℤ g (2 ^ 32)) ≡ mod_ℤ (rand g) (2 ^ 32)
unfolding next_seed rand
next-is g =
    let M = 2 ^ 32 in
    let h : 0 < 2 ^ 32 = lit< tt in
    let s = mod_ℤ g M in
    let e : 196314165 * s + 907633515 ≡ s * 196314165 + 907633515 = omega arith in
    let b : mod_ℤ (g *ℤ pos 196314165 +ℤ pos 907633515) M ≡ (s * 196314165 + 907633515) % M =
    mod_add_l (g *ℤ pos 196314165) (pos 907633515) M h
    ∙ ap (λ (k : ℕ). mod_ℤ (pos k +ℤ pos 907633515) M) (mod_mul_l g (pos 196314165) M h)
    ∙ sym (mod_add_l (pos (s * 196314165)) (pos 907633515) M h) in
    ap (λ (k : ℕ). k % M) e ∙ sym b
    ∙ ap (λ (z : ℤ). mod_ℤ z M) (+ℤ_comm (g *ℤ pos 196314165) (pos 907633515))
    ∙ sym (mod-wrap w32 (pos 907633515 +ℤ g *ℤ pos 196314165))

seed_is : (pulses : List ℤ) (seed : ℤ) (i : ℕ) → seed_at pulses (mod_ℤ seed (2 ^ 32)) i ≡ mod_ℤ (generator_at pulses seed i) (2 ^ 32)
unfolding seed_at generator_at
seed_is pulses seed zero = refl
seed_is pulses seed (suc i) =
    let g = generator_at pulses seed i in
    let p = get_or pulses i (pos 0) in
    ap (λ (k : ℕ). mod_ℤ (pos (next_seed k) +ℤ p) (2 ^ 32)) (seed_is pulses seed i)
    ∙ ap (λ (k : ℕ). mod_ℤ (pos k +ℤ p) (2 ^ 32)) (next-is g)
    ∙ sym (mod_add_l (rand g) p (2 ^ 32) (lit< tt))
    ∙ sym (mod-wrap w32 (rand g +ℤ p))

-- the top bit is the sign
top_bit : (z : ℤ) → SFits w32 z → leb (2 ^ 31) (mod_ℤ z (2 ^ 32)) ≡ lt_z z (pos 0)
top_bit (pos n) h =
    let k : n < 2 ^ 31 = h.sfits in
    let e : n % 2 ^ 32 ≡ n = mod-eq_of_lt (omega arith) in
    rw (e, lt-leb (2 ^ 31) n k, le-ltb n 0 (omega arith)) refl
top_bit (negsuc n) h =
    let k : n < 2 ^ 31 = h.sfits in
    let e : n % 2 ^ 32 ≡ n = mod-eq_of_lt (omega arith) in
    rw (e, le-leb (2 ^ 31) (2 ^ 32 - suc n) (omega arith)) refl

-- ---- a sample
offset_is : (voiced high : Bool) → offset_q14 voiced (cond high (pos 1) (pos 0)) ≡ pos 64 *ℤ offset_q23 voiced high
unfolding offset_q14 offset_q23
offset_is true true = refl
offset_is true false = refl
offset_is false true = refl
offset_is false false = refl

scaled : (p t o : ℤ) → p *ℤ pos 16384 -ℤ t *ℤ pos 1280 +ℤ pos 64 *ℤ o ≡ pos 64 *ℤ (p *ℤ pos (2 ^ 8) -ℤ t *ℤ pos 20 +ℤ o)
scaled p t o =
    let a = p *ℤ pos 16384 in
    let b = t *ℤ pos 1280 in
    let c = p *ℤ pos (2 ^ 8) in
    let d = t *ℤ pos 20 in
    eq_parts (a -ℤ b +ℤ pos 64 *ℤ o) (pos 64 *ℤ (c -ℤ d +ℤ o))
    (omega (arith, mul-parts p (pos 16384), mul-parts t (pos 1280), mul-parts (pos 64) o, mul-parts p (pos (2 ^ 8)), mul-parts t (pos 20), sub_parts_ℤ a b, add_parts (a -ℤ b) (pos 64 *ℤ o), sub_parts_ℤ c d, add_parts (c -ℤ d) o, mul-parts (pos 64) (c -ℤ d +ℤ o)))

level-is : (p : ℤ) → level p ≡ p *ℤ pos 16384 -ℤ sign p *ℤ pos 1280
unfolding level sign
level-is p = go (lt_z (pos 0) p) (lt_z p (pos 0))
  where
    go : (a b : Bool) → p *ℤ pos 16384 -ℤ cond a (pos 1280) (cond b (negsuc 1279) (pos 0)) ≡ p *ℤ pos 16384 -ℤ cond a (pos 1) (cond b (negsuc 0) (pos 0)) *ℤ pos 1280
    go true b = refl
    go false true = refl
    go false false = refl

times_neg : (e : ℤ) → neg_ℤ (pos 64 *ℤ e) ≡ pos 64 *ℤ neg_ℤ e
times_neg e = ap neg_ℤ (*ℤ_comm (pos 64) e) ∙ sym (neg_ℤ-*ℤ e (pos 64)) ∙ *ℤ_comm (neg_ℤ e) (pos 64)

sample_is : (o g p : ℤ) → SFits w32 g → excited (pos 64 *ℤ o) g p ≡ pos 64 *ℤ reconstructed o (mod_ℤ g (2 ^ 32)) p
unfolding excited reconstructed
sample_is o g p h =
    let e = p *ℤ pos (2 ^ 8) -ℤ sign p *ℤ pos 20 +ℤ o in
    let x : level p +ℤ pos 64 *ℤ o ≡ pos 64 *ℤ e = ap (λ (z : ℤ). z +ℤ pos 64 *ℤ o) (level-is p) ∙ scaled p (sign p) o in
    rw (top_bit g h, x) (go (lt_z g (pos 0)) e)
  where
    go : (b : Bool) (e : ℤ) → cond b (neg_ℤ (pos 64 *ℤ e)) (pos 64 *ℤ e) ≡ pos 64 *ℤ cond b (neg_ℤ e) e
    go true e = times_neg e
    go false e = refl

-- ---- the list
list_is : (voiced high : Bool) (seed : ℤ) (pulses : List ℤ) (n : ℕ)
    → excitation (offset_q14 voiced (cond high (pos 1) (pos 0))) pulses seed n ≡ map (λ x. pos 64 *ℤ x) (excitation_q23 (offset_q23 voiced high) pulses (mod_ℤ seed (2 ^ 32)) n)
unfolding excitation excitation_q23
list_is voiced high seed pulses zero = refl
list_is voiced high seed pulses (suc n) =
    let o = offset_q23 voiced high in
    let r = rand (generator_at pulses seed n) in
    let p = get_or pulses n (pos 0) in
    let s = next_seed (seed_at pulses (mod_ℤ seed (2 ^ 32)) n) in
    let q : s ≡ mod_ℤ r (2 ^ 32) = ap next_seed (seed_is pulses seed n) ∙ next-is (generator_at pulses seed n) in
    let x : excited (offset_q14 voiced (cond high (pos 1) (pos 0))) r p ≡ pos 64 *ℤ reconstructed o s p =
    ap (λ (z : ℤ). excited z r p) (offset_is voiced high) ∙ sample_is o r p (rand-fits _) ∙ ap (λ (k : ℕ). pos 64 *ℤ reconstructed o k p) (sym q) in
    (λ i. list_is voiced high seed pulses n i ++ x i ∷ [])
    ∙ sym (map-append (λ z. pos 64 *ℤ z) (excitation_q23 o pulses (mod_ℤ seed (2 ^ 32)) n) (reconstructed o s p ∷ []))

-- for each of the two offset types
pub is_standard : (voiced : Bool) (offsetType seed : ℤ) (pulses : List ℤ) (n : ℕ) → offsetType ≡ pos (nat_abs offsetType) → nat_abs offsetType ≤ 1
    → excitation (offset_q14 voiced offsetType) pulses seed n ≡ standard64 voiced offsetType seed pulses n
unfolding standard64
is_standard voiced (pos zero) seed pulses n e h = list_is voiced false seed pulses n
is_standard voiced (pos (suc zero)) seed pulses n e h = list_is voiced true seed pulses n
is_standard voiced (pos (suc (suc k))) seed pulses n e h = absurd (omega arith)
is_standard voiced (negsuc k) seed pulses n e h = absurd (pos-ne-negsuc _ k (sym e))
