-- Leaps: joining them is associative, k draws in a leap are k single ones, and 2 ^ 32 draws are none.
use Prim.Native.Nat.{ℕ, zero, suc, ◌+◌, ◌-◌, ◌*◌, ◌/◌, ◌%◌, ◌^◌, ◌<◌}
use mathlib.Core.Path.{◌≡◌, refl, sym, ap, ◌∙◌, subst}
use mathlib.Core.Bool.{Bool, true, false, cond}
use native.Mathlib.Omega.{arith}
use native.Mathlib.Nat.{mod-lt, mod-add-div'}
use borrow.Author.Tests.{eqb-true, eqb-false}
use lib.Dec.{eqb}
use lib.IntN.{ℤ, pos, ◌+ℤ◌, ◌*ℤ◌, one, +ℤ_idl, +ℤ_idr, +ℤ_assoc, +ℤ_comm, *ℤ-one, *ℤ-zero, *ℤ_comm}
use mir.Syntax.{w32}
use mir.Val.{SFits}
use Rattle.word.specs.Int.{wrap, wrap32}
use Rattle.word.proofs.Ring.{*ℤ_assoc, *ℤ_add_r}
use Rattle.word.proofs.Words.{wrap-fits, wrap_id, wrap_add_l, wrap_add_r, wrap_mul_l, wrap_mul_r}
use Rattle.macros.specs.Fixed.{rand}
use Rattle.generator.specs.declared.Leap.{Leap}
use Rattle.generator.specs.Draws.{drawn}
use Rattle.generator.specs.Leaps.{landed, joined, no_draw, one_draw, times, leap_of, undoing}

-- in 32 bits: a (b x + c) + d, with the inner sum cut or not
inner : (a z d : ℤ) → wrap32 (a *ℤ wrap32 z +ℤ d) ≡ wrap32 (a *ℤ z +ℤ d)
inner a z d =
    sym (wrap_add_l w32 (a *ℤ wrap32 z) d) ∙ ap (λ (y : ℤ). wrap32 (y +ℤ d)) (wrap_mul_r w32 a z) ∙ wrap_add_l w32 (a *ℤ z) d

outer : (a x d : ℤ) → wrap32 (wrap32 a *ℤ x +ℤ d) ≡ wrap32 (a *ℤ x +ℤ d)
outer a x d =
    sym (wrap_add_l w32 (wrap32 a *ℤ x) d) ∙ ap (λ (y : ℤ). wrap32 (y +ℤ d)) (wrap_mul_l w32 a x) ∙ wrap_add_l w32 (a *ℤ x) d

-- a (b x + c) + d is (a b) x + (a c + d)
open_up : (a b x c d : ℤ) → a *ℤ (b *ℤ x +ℤ c) +ℤ d ≡ a *ℤ b *ℤ x +ℤ (a *ℤ c +ℤ d)
open_up a b x c d =
    ap (λ (y : ℤ). y +ℤ d) (*ℤ_comm a (b *ℤ x +ℤ c) ∙ *ℤ_add_r (b *ℤ x) c a ∙ (λ i. *ℤ_comm (b *ℤ x) a i +ℤ *ℤ_comm c a i) ∙ ap (λ (y : ℤ). y +ℤ a *ℤ c) (sym (*ℤ_assoc a b x)))
    ∙ +ℤ_assoc (a *ℤ b *ℤ x) (a *ℤ c) d

-- a cut product and a cut sum
both-cut : (a b x c d : ℤ) → wrap32 (a *ℤ wrap32 (b *ℤ x +ℤ c) +ℤ d) ≡ wrap32 (wrap32 (a *ℤ b) *ℤ x +ℤ wrap32 (a *ℤ c +ℤ d))
both-cut a b x c d =
    inner a (b *ℤ x +ℤ c) d ∙ ap wrap32 (open_up a b x c d) ∙ sym (outer (a *ℤ b) x (a *ℤ c +ℤ d)) ∙ sym (wrap_add_r w32 (wrap32 (a *ℤ b) *ℤ x) (a *ℤ c +ℤ d))

-- two leaps land where one after the other does
pub landed-joined : (f g : Leap) (x : ℤ) → landed (joined f g) x ≡ landed g (landed f x)
unfolding landed joined
landed-joined f g x = sym (both-cut g.factor f.factor x f.term g.term)

pub joined_assoc : (f g h : Leap) → joined (joined f g) h ≡ joined f (joined g h)
unfolding joined
joined_assoc f g h =
    let p : wrap32 (h.factor *ℤ wrap32 (g.factor *ℤ f.factor)) ≡ wrap32 (wrap32 (h.factor *ℤ g.factor) *ℤ f.factor) =
    wrap_mul_r w32 h.factor (g.factor *ℤ f.factor) ∙ ap wrap32 (sym (*ℤ_assoc h.factor g.factor f.factor)) ∙ sym (wrap_mul_l w32 (h.factor *ℤ g.factor) f.factor) in
    let q = both-cut h.factor g.factor f.term g.term h.term in
    λ i. record { factor = p i; term = q i }

-- joining keeps to 32 bits
pub record Cut (f : Leap) : Type 0 where
  pub factor : SFits w32 f.factor
  pub term : SFits w32 f.term

pub cut-joined : (f g : Leap) → Cut (joined f g)
unfolding joined
cut-joined f g = record { factor = wrap-fits w32 _; term = wrap-fits w32 _ }

one-times : (a : ℤ) → pos 1 *ℤ a ≡ a
unfolding one
one-times a = *ℤ_comm (pos 1) a ∙ *ℤ-one a

pub no_draw-joined : (f : Leap) → Cut f → joined f no_draw ≡ f
unfolding joined no_draw
no_draw-joined f k =
    let p = ap wrap32 (one-times f.factor) ∙ wrap_id k.factor in
    let q = ap wrap32 (ap (λ (y : ℤ). y +ℤ pos 0) (one-times f.term) ∙ +ℤ_idr f.term) ∙ wrap_id k.term in
    λ i. record { factor = p i; term = q i }

cut-times : (f : Leap) (n : ℕ) → Cut (times f n)
unfolding times no_draw
cut-times f zero = record { factor = record { sfits = omega arith }; term = record { sfits = omega arith } }
cut-times f (suc n) = cut-joined (times f n) f

-- leaps add
pub times_add : (f : Leap) (m n : ℕ) → joined (times f m) (times f n) ≡ times f (m + n)
unfolding times
times_add f m zero =
    let e : m ≡ m + 0 = omega arith in
    no_draw-joined (times f m) (cut-times f m) ∙ ap (times f) e
times_add f m (suc n) =
    let e : suc (m + n) ≡ m + suc n = omega arith in
    sym (joined_assoc (times f m) (times f n) f) ∙ ap (λ (g : Leap). joined g f) (times_add f m n) ∙ ap (times f) e

-- n times a leap twice as long
pub times-twice : (f : Leap) (n : ℕ) → times (joined f f) n ≡ times f (2 * n)
unfolding times
times-twice f zero = refl
times-twice f (suc n) =
    let e : suc (suc (2 * n)) ≡ 2 * suc n = omega arith in
    ap (λ (g : Leap). joined g (joined f f)) (times-twice f n) ∙ sym (joined_assoc (times f (2 * n)) f f) ∙ ap (times f) e

-- k draws in a leap are k single ones
one-rand : (x : ℤ) → landed one_draw x ≡ rand x
unfolding landed one_draw rand
one-rand x = ap wrap32 (+ℤ_comm (pos 196314165 *ℤ x) (pos 907633515) ∙ ap (λ (y : ℤ). pos 907633515 +ℤ y) (*ℤ_comm (pos 196314165) x))

no_draw_lands : (x : ℤ) → SFits w32 x → landed no_draw x ≡ x
unfolding landed no_draw
no_draw_lands x h = ap wrap32 (+ℤ_idr (pos 1 *ℤ x) ∙ one-times x) ∙ wrap_id h

pub leap_drawn : (k : ℕ) (x : ℤ) → SFits w32 x → landed (leap_of k) x ≡ drawn x k
unfolding times drawn
leap_drawn zero x h = no_draw_lands x h
leap_drawn (suc k) x h =
    landed-joined (times one_draw k) one_draw x ∙ ap (landed one_draw) (leap_drawn k x h) ∙ one-rand (drawn x k)

-- a leap doubled i times
unfoldable doubled : ℕ → Leap
doubled zero = one_draw
doubled (suc i) = joined (doubled i) (doubled i)

one-once : times one_draw 1 ≡ one_draw
unfolding times joined no_draw one_draw wrap
one-once = refl

doubled-is : (i : ℕ) → doubled i ≡ leap_of (2 ^ i)
unfolding doubled
doubled-is zero = sym one-once
doubled-is (suc i) =
    let e : 2 ^ i + 2 ^ i ≡ 2 ^ suc i = omega arith in
    (λ j. joined (doubled-is i j) (doubled-is i j)) ∙ times_add one_draw (2 ^ i) (2 ^ i) ∙ ap leap_of e

-- 2 ^ 32 draws are none
doubled_32 : doubled 32 ≡ no_draw
unfolding doubled joined one_draw no_draw wrap
doubled_32 = refl

pub period : leap_of (2 ^ 32) ≡ no_draw
period = sym (doubled-is 32) ∙ doubled_32

leap_0 : leap_of 0 ≡ no_draw
unfolding times
leap_0 = refl

pub drawn-fits : (x : ℤ) (k : ℕ) → SFits w32 x → SFits w32 (drawn x k)
unfolding drawn rand
drawn-fits x zero h = h
drawn-fits x (suc k) h = wrap-fits w32 _

no_draw-first : (f : Leap) → Cut f → joined no_draw f ≡ f
unfolding joined no_draw
no_draw-first f k =
    let p = ap wrap32 (*ℤ_comm f.factor (pos 1) ∙ one-times f.factor) ∙ wrap_id k.factor in
    let q = ap wrap32 (ap (λ (y : ℤ). y +ℤ f.term) (*ℤ-zero f.factor) ∙ +ℤ_idl f.term) ∙ wrap_id k.term in
    λ i. record { factor = p i; term = q i }

-- whole periods fall away
pub periods : (q r : ℕ) → leap_of (2 ^ 32 * q + r) ≡ leap_of r
periods zero r =
    let e : 2 ^ 32 * 0 + r ≡ r = omega arith in
    ap leap_of e
periods (suc q) r =
    let e : 2 ^ 32 * suc q + r ≡ 2 ^ 32 + (2 ^ 32 * q + r) = omega arith in
    ap leap_of e ∙ sym (times_add one_draw (2 ^ 32) (2 ^ 32 * q + r)) ∙ ap (λ (f : Leap). joined f (leap_of (2 ^ 32 * q + r))) period
    ∙ no_draw-first (leap_of (2 ^ 32 * q + r)) (cut-times one_draw (2 ^ 32 * q + r))
    ∙ periods q r

-- every leap has one that undoes it
pub undone : (k : ℕ) → joined (leap_of k) (leap_of (undoing k)) ≡ no_draw
unfolding undoing
undone k =
    let M = 2 ^ 32 in
    let h : k % M < M = mod-lt k (omega arith) in
    let s = mod-add-div' k M in
    let e : k + (M - k % M) ≡ M * (k / M + 1) + 0 = omega (arith, s, h) in
    times_add one_draw k (M - k % M) ∙ ap leap_of e ∙ periods (k / M + 1) 0 ∙ leap_0

pub undone_at : (k : ℕ) (x : ℤ) → SFits w32 x → drawn (drawn x k) (undoing k) ≡ x
undone_at k x h =
    sym (leap_drawn (undoing k) (drawn x k) (drawn-fits x k h)) ∙ ap (landed (leap_of (undoing k))) (sym (leap_drawn k x h))
    ∙ sym (landed-joined (leap_of k) (leap_of (undoing k)) x)
    ∙ ap (λ (f : Leap). landed f x) (undone k)
    ∙ no_draw_lands x h

pub undone_before : (k : ℕ) → joined (leap_of (undoing k)) (leap_of k) ≡ no_draw
undone_before k =
    let e : undoing k + k ≡ k + undoing k = omega arith in
    times_add one_draw (undoing k) k ∙ ap leap_of e ∙ sym (times_add one_draw k (undoing k)) ∙ undone k

-- only the draws modulo 2 ^ 32 count
pub whole_periods : (k : ℕ) → leap_of k ≡ leap_of (k % 2 ^ 32)
whole_periods k =
    let s = mod-add-div' k (2 ^ 32) in
    let e : k ≡ 2 ^ 32 * (k / 2 ^ 32) + k % 2 ^ 32 = omega (arith, s) in
    ap leap_of e ∙ periods (k / 2 ^ 32) (k % 2 ^ 32)

pub leap_cut : (k : ℕ) → Cut (leap_of k)
leap_cut k = cut-times one_draw k

once : (f : Leap) → Cut f → times f 1 ≡ f
unfolding times
once f k = no_draw-first f k

-- a turn of doubling: of what is left, the last draw if their count is odd, and half as many of twice the leap
pub halved : (all power : Leap) (n : ℕ) → Cut all → Cut power
    → joined (cond (eqb (n % 2) 1) (joined all power) all) (times (joined power power) (n / 2)) ≡ joined all (times power n)
unfolding times
halved all power n k m = go (eqb (n % 2) 1) refl
  where
    half : (b : ℕ) (f : Leap) → f ≡ times power b → n ≡ b + 2 * (n / 2) → joined (joined all f) (times (joined power power) (n / 2)) ≡ joined all (times power n)
    half b f d e =
        joined_assoc all f (times (joined power power) (n / 2))
        ∙ ap (joined all) ((λ i. joined (d i) (times-twice power (n / 2) i)) ∙ times_add power b (2 * (n / 2)) ∙ ap (times power) (sym e))

    even : (n % 2 ≡ 1 → ⊥) → n ≡ 0 + 2 * (n / 2)
    even h = omega (arith, h)

    go : (t : Bool) → eqb (n % 2) 1 ≡ t → joined (cond t (joined all power) all) (times (joined power power) (n / 2)) ≡ joined all (times power n)
    go true e =
        let h : n % 2 ≡ 1 = eqb-true (n % 2) 1 e in
        let s : n ≡ 1 + 2 * (n / 2) = omega arith in
        half 1 power (sym (once power m)) s
    go false e =
        let h = eqb-false (n % 2) 1 e in
        let s = even h in
        ap (λ (f : Leap). joined f (times (joined power power) (n / 2))) (sym (no_draw-joined all k)) ∙ half 0 no_draw refl s

pub cut_if : (b : Bool) (all power : Leap) → Cut all → Cut (cond b (joined all power) all)
cut_if true all power k = cut-joined all power
cut_if false all power k = k

pub none_first : (k : ℕ) → joined no_draw (leap_of k) ≡ leap_of k
none_first k = no_draw-first (leap_of k) (leap_cut k)

pub cut-none : Cut no_draw
unfolding times
cut-none = leap_cut 0

pub cut-one : Cut one_draw
cut-one = subst Cut one-once (leap_cut 1)

-- nothing left
pub none_left : (all power : Leap) → Cut all → joined all (times power 0) ≡ all
unfolding times
none_left all power k = no_draw-joined all k
