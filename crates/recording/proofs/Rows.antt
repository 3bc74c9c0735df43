-- Rows before another judgement.
use mathlib.Core.Path.{◌≡◌, refl, sym, ap, ◌∙◌}
use mathlib.Core.Bool.{Bool, true, false, cond}
use mathlib.Core.List.{List, [], ◌∷◌}
use Rattle.std.specs.Prelude.{Ok, Err}
use Rattle.std.specs.Result.{IsErrAnd}
use Rattle.refusal.specs.First.{Row, ◌gives◌, first_of}
use Rattle.refusal.specs.Refusals.{Judged, code_of, if_accepted}
use Rattle.refusal.specs.declared.Refusal.{Refusal}
use Rattle.refusal.proofs.Clear.{Clear, refuses, at_err, clear}
use Rattle.recording.specs.Rows.{first_then}

-- none of the rows is met, and nothing else is refused
pub clear_then : (rows : List Row) (other : Judged) → code_of (first_then rows other) ≡ 0 → Clear rows × (code_of other ≡ 0)
unfolding first_then
clear_then [] other e = (tt, e)
clear_then (r ∷ rs) other e = go r.applies refl (λ z. clear_then rs other z) e
  where
    go : (b : Bool) → r.applies ≡ b → (code_of (first_then rs other) ≡ 0 → Clear rs × (code_of other ≡ 0)) → code_of (cond b (Err r.refusal) (first_then rs other)) ≡ 0
        → ((r.applies ≡ false) × Clear rs) × (code_of other ≡ 0)
    go true h ih z = absurd (refuses r.refusal z)
    go false h ih z = let k = ih z in ((h, k.0), k.1)

pub passed_then : (rows : List Row) (other : Judged) → Clear rows → first_then rows other ≡ other
unfolding first_then
passed_then [] other h = refl
passed_then (r ∷ rs) other h = rw h.0 (passed_then rs other h.1)

-- one row before others
pub then_err : {e : Refusal} (r : Row) (rs : List Row) (other : Judged) → first_of (r ∷ []) ≡ Err e → first_then (r ∷ rs) other ≡ Err e
unfolding first_of first_then
then_err {e} r rs other h = go r.applies h
  where
    go : (b : Bool) → cond b (Err r.refusal) (Ok (tt {0})) ≡ Err e → cond b (Err r.refusal) (first_then rs other) ≡ Err e
    go true h = h
    go false h = absurd (refuses e (ap code_of (sym h)))

pub then_ok : (r : Row) (rs : List Row) (other : Judged) → first_of (r ∷ []) ≡ Ok tt → first_then (r ∷ rs) other ≡ first_then rs other
unfolding first_then
then_ok r rs other h = rw (clear (r ∷ []) (ap code_of h)).0 refl

-- a run of rows
pub then_is : (rows : List Row) (other : Judged) → first_then rows other ≡ if_accepted (first_of rows) other (first_of rows)
unfolding first_of first_then
then_is [] other = refl
then_is (r ∷ rs) other = go r.applies (then_is rs other)
  where
    go : (b : Bool) → first_then rs other ≡ if_accepted (first_of rs) other (first_of rs)
        → cond b (Err r.refusal) (first_then rs other) ≡ if_accepted (cond b (Err r.refusal) (first_of rs)) other (cond b (Err r.refusal) (first_of rs))
    go true ih = refl
    go false ih = ih

pub run_err : {e : Refusal} (rows : List Row) (other : Judged) → first_of rows ≡ Err e → first_then rows other ≡ Err e
run_err rows other h = rw (then_is rows other, h) refl

pub run_ok : (rows : List Row) (other : Judged) → first_of rows ≡ Ok tt → first_then rows other ≡ other
run_ok rows other h = rw (then_is rows other, h) refl

-- a row as a step judged it, where x is what its test means
module _ {q : Judged} (r : Refusal) {b x : Bool} (h : q ≡ first_of ((b gives r) ∷ [])) (k : b ≡ x) where
  judged : q ≡ first_of ((x gives r) ∷ [])
  judged = h ∙ ap (λ (z : Bool). first_of ((z gives r) ∷ [])) k

  pub row_met : {e : Refusal} (rs : List Row) (other : Judged) → q ≡ Err e → first_then ((x gives r) ∷ rs) other ≡ Err e
  row_met rs other g = then_err (x gives r) rs other (sym judged ∙ g)

  pub row-unmet : q ≡ Ok tt → x ≡ false
  row-unmet g = (clear ((x gives r) ∷ []) (ap code_of (sym judged ∙ g))).0

  pub row_past : (rs : List Row) (other : Judged) → q ≡ Ok tt → first_then ((x gives r) ∷ rs) other ≡ first_then rs other
  row_past rs other g = then_ok (x gives r) rs other (sym judged ∙ g)

-- rows that `?` joins: q is what a step judged, t what the function gives back
module _ {t q : Judged} where
  pub row_stops : {e : Refusal} (r : Refusal) (rs : List Row) (other : Judged) {b x : Bool} → q ≡ first_of ((b gives r) ∷ []) → b ≡ x → q ≡ Err e → IsErrAnd t (λ y. y ≡ e) → t ≡ first_then ((x gives r) ∷ rs) other
  row_stops r rs other h k g u = at_err t _ u ∙ sym (row_met r h k rs other g)

  pub row_passes : (r : Refusal) (rs : List Row) (other : Judged) {b x : Bool} → q ≡ first_of ((b gives r) ∷ []) → b ≡ x → q ≡ Ok tt → t ≡ first_then rs other → t ≡ first_then ((x gives r) ∷ rs) other
  row_passes r rs other h k g u = u ∙ sym (row_past r h k rs other g)

-- and the last of them
pub rows_pass : {t : Judged} (other : Judged) → t ≡ other → t ≡ first_then [] other
unfolding first_then
rows_pass other u = u
