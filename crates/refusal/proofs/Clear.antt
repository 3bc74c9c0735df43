-- What it means that nothing is refused.
use Prim.Native.Nat.{ℕ, ◌≤◌}
use mathlib.Core.Path.{◌≡◌, refl, sym, ap, ◌∙◌}
use mathlib.Core.Bool.{Bool, true, false, ◌&&◌, cond, false≢true}
use mathlib.Core.Logic.{◌⊎◌, inl, inr}
use mathlib.Core.List.{List, [], ◌∷◌, ◌++◌}
use borrow.Author.Tests.{leb-true}
use lib.Dec.{leb, lit≤}
use native.Mathlib.Omega.{arith}
use Rattle.std.specs.Prelude.{Result, Ok, Err, is_ok}
use Rattle.std.specs.Result.{IsErrAnd}
use Rattle.std.proofs.lemmas.Bool.{and_parts}
use Rattle.std.proofs.lemmas.Result.{err_from_is_err_and}
use Rattle.refusal.specs.First.{Row, ◌gives◌, first_of}
use Rattle.refusal.specs.Refusals.{refusal_number, Judged, code_of, if_accepted, answered}
use Rattle.refusal.specs.declared.Refusal.{Refusal}
use Rattle.refusal.specs.declared.Refusal.TheVariants.{Rate, Size, History, RunFull, Signal, Gain, Lag, Taps, Line, Pulses, Speaker, Length, Order, Squelch, Weights, Channels, Place, Post, Waiting, Chain, Record, Edition, Limit}

-- a row's number is not 0
pub positive : (r : Refusal) → 1 ≤ refusal_number r
positive Rate = lit≤ tt
positive Size = lit≤ tt
positive History = lit≤ tt
positive RunFull = lit≤ tt
positive Signal = lit≤ tt
positive Gain = lit≤ tt
positive Lag = lit≤ tt
positive Taps = lit≤ tt
positive Line = lit≤ tt
positive Pulses = lit≤ tt
positive Speaker = lit≤ tt
positive Length = lit≤ tt
positive Order = lit≤ tt
positive Squelch = lit≤ tt
positive Weights = lit≤ tt
positive Channels = lit≤ tt
positive Place = lit≤ tt
positive Post = lit≤ tt
positive Waiting = lit≤ tt
positive Chain = lit≤ tt
positive Record = lit≤ tt
positive Edition = lit≤ tt
positive Limit = lit≤ tt

pub refuses : (r : Refusal) → refusal_number r ≡ 0 → ⊥
refuses r e = let p = positive r in omega (arith, e, p)

-- what refuses nothing is one value
pub accepted : (j : Judged) → code_of j ≡ 0 → j ≡ Ok tt
accepted (Ok u) e = refl
accepted (Err r) e = absurd (refuses r e)

-- none of the rows applies
abbrev pub Clear : List Row → Type 0
Clear [] = Unit {0}
Clear (r ∷ rs) = (r.applies ≡ false) × Clear rs

pub clear : (rows : List Row) → code_of (first_of rows) ≡ 0 → Clear rows
unfolding first_of
clear [] e = tt
clear (r ∷ rs) e = go r.applies refl (λ z. clear rs z) e
  where
    go : (b : Bool) → r.applies ≡ b → (code_of (first_of rs) ≡ 0 → Clear rs) → code_of (cond b (Err r.refusal) (first_of rs)) ≡ 0 → (r.applies ≡ false) × Clear rs
    go true h ih z = absurd (refuses r.refusal z)
    go false h ih z = (h, ih z)

pub passed : (rows : List Row) → Clear rows → first_of rows ≡ Ok tt
unfolding first_of
passed [] h = refl
passed (r ∷ rs) h = rw h.0 (passed rs h.1)

-- of two runs of rows, the second is met where none of the first applies
pub first-append : (xs ys : List Row) → first_of (xs ++ ys) ≡ if_accepted (first_of xs) (first_of ys) (first_of xs)
unfolding first_of
first-append [] ys = refl
first-append (r ∷ rs) ys = go r.applies (first-append rs ys)
  where
    go : (b : Bool) → first_of (rs ++ ys) ≡ if_accepted (first_of rs) (first_of ys) (first_of rs) → cond b (Err r.refusal) (first_of (rs ++ ys)) ≡ if_accepted (cond b (Err r.refusal) (first_of rs)) (first_of ys) (cond b (Err r.refusal) (first_of rs))
    go true ih = refl
    go false ih = ih

pub append_err : {e : Refusal} (xs ys : List Row) → first_of xs ≡ Err e → first_of (xs ++ ys) ≡ Err e
append_err xs ys h = rw (first-append xs ys, h) refl

pub append_ok : (xs ys : List Row) → first_of xs ≡ Ok tt → first_of (xs ++ ys) ≡ first_of ys
append_ok xs ys h = rw (first-append xs ys, h) refl

-- the same for one row before others
pub row_err : {e : Refusal} (r : Row) (rs : List Row) → first_of (r ∷ []) ≡ Err e → first_of (r ∷ rs) ≡ Err e
row_err r rs h = append_err (r ∷ []) rs h

pub row_ok : (r : Row) (rs : List Row) → first_of (r ∷ []) ≡ Ok tt → first_of (r ∷ rs) ≡ first_of rs
row_ok r rs h = append_ok (r ∷ []) rs h

-- what a call answers where it is refused, and where it isn't
pub answered_err : {A : Type 0} {e : Refusal} (j : Judged) (x : A) → j ≡ Err e → answered j x ≡ Err e
answered_err j x h = rw h refl

pub answered_ok : {A : Type 0} (j : Judged) (x : A) → j ≡ Ok tt → answered j x ≡ Ok x
answered_ok j x h = rw h refl

-- a call that is refused was refused by its judgement
pub judged_err : {A : Type 0} {e : Refusal} (j : Judged) (x : A) → answered j x ≡ Err e → j ≡ Err e
judged_err (Ok u) x h = absurd (false≢true (sym (ap is_ok h)))
judged_err {A} (Err r) x h = ap (λ (q : Result A Refusal). Err (row q)) h
  where
    row : Result A Refusal → Refusal
    row (Ok y) = r
    row (Err s) = s

-- and leaves what was there
pub stays : {A : Type 0} {j : Judged} {e : Refusal} (new old : A) → j ≡ Err e → old ≡ if_accepted j new old
stays new old h = rw h refl

-- what is known of a call that isn't refused
pub answered_is : {A : Type 0} (j : Judged) (x y : A) → answered j x ≡ Ok y → (code_of j ≡ 0) × (x ≡ y)
answered_is (Ok u) x y h = (refl, ap (value y) h)
  where
    value : {A : Type 0} → A → Result A Refusal → A
    value d (Ok z) = z
    value d (Err r) = d
answered_is (Err r) x y h = absurd (false≢true (ap is_ok h))

-- what the exit of a `?` gives back
pub at_err : {A : Type 0} (r : Result A Refusal) (e : Refusal) → IsErrAnd r (λ x. x ≡ e) → r ≡ Err e
at_err r e h = let p = err_from_is_err_and r h in p.1 ∙ (λ i. Err (p.2 i))

-- each of the rows has a number of k or more
abbrev pub from : ℕ → List Row → Bool
from k [] = true
from k (r ∷ rs) = leb k (refusal_number r.refusal) && from k rs

pub refused-from : (k : ℕ) (rows : List Row) → from k rows ≡ true → (code_of (first_of rows) ≡ 0) ⊎ (k ≤ code_of (first_of rows))
unfolding first_of
refused-from k [] e = inl refl
refused-from k (r ∷ rs) e =
    let b = and_parts (leb k (refusal_number r.refusal)) (from k rs) e in
    go r.applies (leb-true k _ b.0) (refused-from k rs b.1)
  where
    go : (b : Bool) → k ≤ refusal_number r.refusal → (code_of (first_of rs) ≡ 0) ⊎ (k ≤ code_of (first_of rs)) → (code_of (cond b (Err r.refusal) (first_of rs)) ≡ 0) ⊎ (k ≤ code_of (cond b (Err r.refusal) (first_of rs)))
    go true h ih = inr h
    go false h ih = ih

-- ---- rows that `?` joins: q is what a step judged, t what the function gives back
module _ {t q : Judged} where
  pub row_stops : {e : Refusal} (r : Refusal) (rs : List Row) {b x : Bool} → q ≡ first_of ((b gives r) ∷ []) → b ≡ x → q ≡ Err e → IsErrAnd t (λ y. y ≡ e) → t ≡ first_of ((x gives r) ∷ rs)
  row_stops r rs {b} {x} h k g u =
      at_err t _ u ∙ sym (row_err (x gives r) rs (ap (λ (z : Bool). first_of ((z gives r) ∷ [])) (sym k) ∙ sym h ∙ g))

  pub row_passes : (r : Refusal) (rs : List Row) {b x : Bool} → q ≡ first_of ((b gives r) ∷ []) → b ≡ x → q ≡ Ok tt → t ≡ first_of rs → t ≡ first_of ((x gives r) ∷ rs)
  row_passes r rs {b} {x} h k g u =
      u ∙ sym (row_ok (x gives r) rs (ap (λ (z : Bool). first_of ((z gives r) ∷ [])) (sym k) ∙ sym h ∙ g))

  pub run_stops : {e : Refusal} (xs ys : List Row) → q ≡ first_of xs → q ≡ Err e → IsErrAnd t (λ y. y ≡ e) → t ≡ first_of (xs ++ ys)
  run_stops xs ys h g u = at_err t _ u ∙ sym (append_err xs ys (sym h ∙ g))

  pub run_passes : (xs ys : List Row) → q ≡ first_of xs → q ≡ Ok tt → t ≡ first_of ys → t ≡ first_of (xs ++ ys)
  run_passes xs ys h g u = u ∙ sym (append_ok xs ys (sym h ∙ g))
