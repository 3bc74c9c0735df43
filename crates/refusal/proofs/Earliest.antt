-- The earlier of two judgements: it refuses nothing only where both do, is one of the two, and none of them has a smaller number.
use mathlib.Core.Path.{◌≡◌, refl, ◌∙◌}
use mathlib.Core.Bool.{Bool, true, false, cond}
use borrow.Author.Tests.{leb-true, leb-false, le-ltb, lt-ltb}
use lib.Dec.{leb, ltb}
use lib.IntN.{ℤ, pos}
use lib.ListN.{get_or}
use mathlib.Core.List.{[], ◌∷◌}
use denote.Enum.Declared.{tag_of}
use Rattle.std.specs.Prelude.{Ok, Err}
use Rattle.std.specs.Ordering.{is_lt, ord_min, int_cmp}
use Rattle.std.specs.declared.cmp.Ordering.TheVariants.{Less, Equal, Greater}
use Rattle.refusal.specs.declared.Refusal.{Refusal}
use Rattle.refusal.specs.declared.Refusal.TheVariants.{Rate, Size, History, RunFull, Signal, Gain, Lag, Taps, Line, Pulses, Speaker, Length, Order, Squelch, Weights, Channels, Place, Post, Waiting, Chain, Record, Edition, Limit}
use Rattle.refusal.specs.contracts.Refusal.{the_type}
use Rattle.refusal.specs.contracts.RefusalOrd.TheImpl.{ghosts as derived}
use Rattle.refusal.specs.First.{earlier}
use Rattle.refusal.specs.Refusals.{refusal_number, Judged, code_of}
use Rattle.refusal.proofs.Clear.{refuses}

pub one_of_two : (a b : Judged) (P : Judged → Type 0) → P a → P b → P (earlier a b)
one_of_two (Ok u) b P p q = q
one_of_two (Err r) (Ok u) P p q = p
one_of_two (Err r) (Err t) P p q = go (leb (refusal_number r) (refusal_number t))
  where
    go : (c : Bool) → P (cond c (Err r) (Err t))
    go true = p
    go false = q

pub earlier-clear : (a b : Judged) → code_of (earlier a b) ≡ 0 → (code_of a ≡ 0) × (code_of b ≡ 0)
earlier-clear (Ok u) b z = (refl, z)
earlier-clear (Err r) (Ok u) z = (z, refl)
earlier-clear (Err r) (Err t) z = go (leb (refusal_number r) (refusal_number t)) refl z
  where
    go : (c : Bool) → leb (refusal_number r) (refusal_number t) ≡ c → code_of (cond c (Err r) (Err t)) ≡ 0 → (refusal_number r ≡ 0) × (refusal_number t ≡ 0)
    go true g z = absurd (refuses r z)
    go false g z = absurd (refuses t z)

-- the numbers of the variants, by which the derived order goes
abbrev number_of : Refusal → ℤ
number_of r = get_or (pos 1 ∷ pos 2 ∷ pos 3 ∷ pos 4 ∷ pos 5 ∷ pos 6 ∷ pos 7 ∷ pos 8 ∷ pos 9 ∷ pos 10 ∷ pos 11 ∷ pos 12 ∷ pos 13 ∷ pos 14 ∷ pos 15 ∷ pos 16 ∷ pos 17 ∷ pos 18 ∷ pos 19 ∷ pos 20 ∷ pos 21 ∷ pos 22 ∷ pos 23 ∷ []) (tag_of the_type r) (pos 0)

number_is : (r : Refusal) → number_of r ≡ pos (refusal_number r)
number_is r = elim r as (λ x. number_of x ≡ pos (refusal_number x)) [ Rate ↦ refl | Size ↦ refl | History ↦ refl | RunFull ↦ refl | Signal ↦ refl | Gain ↦ refl | Lag ↦ refl | Taps ↦ refl | Line ↦ refl | Pulses ↦ refl | Speaker ↦ refl | Length ↦ refl | Order ↦ refl | Squelch ↦ refl | Weights ↦ refl | Channels ↦ refl | Place ↦ refl | Post ↦ refl | Waiting ↦ refl | Chain ↦ refl | Record ↦ refl | Edition ↦ refl | Limit ↦ refl ]

smaller : (r t : Refusal) → ord_min (λ x y. int_cmp (number_of x) (number_of y)) r t ≡ cond (leb (refusal_number r) (refusal_number t)) r t
smaller r t = rw (number_is t, number_is r) (go (leb (refusal_number r) (refusal_number t)) refl)
  where
    not_after : (s : Bool) → cond (is_lt (cond false Less (cond s Greater Equal))) t r ≡ r
    not_after true = refl
    not_after false = refl

    go : (s : Bool) → leb (refusal_number r) (refusal_number t) ≡ s → ord_min (λ x y. int_cmp (pos (refusal_number x)) (pos (refusal_number y))) r t ≡ cond s r t
    go true g = rw (le-ltb (refusal_number t) (refusal_number r) (leb-true (refusal_number r) (refusal_number t) g)) (not_after (ltb (refusal_number r) (refusal_number t)))
    go false g = rw (lt-ltb (refusal_number t) (refusal_number r) (leb-false (refusal_number r) (refusal_number t) g)) refl

earlier_err : (s : Bool) (r t : Refusal) → ◌≡◌ {A = Judged} (Err (cond s r t)) (cond s (Err r) (Err t))
earlier_err true r t = refl
earlier_err false r t = refl

err : {x y : Refusal} → x ≡ y → ◌≡◌ {A = Judged} (Err x) (Err y)
err e = λ i. Err (e i)

pub min_is : (a b : Judged) {r t m : Refusal} → a ≡ Err r → b ≡ Err t → m ≡ ord_min derived.cmp r t → Err m ≡ earlier a b
min_is a b {r} {t} p q e = rw (p, q, e) (err (smaller r t) ∙ earlier_err (leb (refusal_number r) (refusal_number t)) r t)
