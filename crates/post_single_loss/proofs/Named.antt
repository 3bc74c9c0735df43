-- What is judged of a call, and the number that it names.
use Prim.Native.Nat.{ℕ, ◌≤◌}
use mathlib.Core.Path.{◌≡◌, refl, sym, ap, subst, ◌∙◌}
use mathlib.Core.Bool.{Bool, true, false, cond, false≢true}
use mathlib.Core.List.{List, [], ◌∷◌}
use native.Mathlib.Omega.{arith}
use lib.Dec.{ltb}
use lib.IntN.{ℤ}
use lib.ListN.{length}
use Rattle.std.specs.Prelude.{Option, Some, None, Ok, Err, is_ok}
use Rattle.refusal.specs.First.{◌gives◌, first_of}
use Rattle.refusal.specs.Refusals.{Judged, code_of, if_accepted}
use Rattle.refusal.specs.declared.Refusal.{Refusal}
use Rattle.refusal.specs.declared.Refusal.TheVariants.{Record}
use Rattle.refusal.proofs.Clear.{refuses, accepted, clear, judged_err, answered_is, answered_ok}
use Rattle.recording.specs.Frames.{frames_in}
use Rattle.recording.specs.Reading.{read_refusal, read_of}
use Rattle.recording.proofs.Accepted.{few, frames_count}
use Rattle.culprit.specs.Search.{first_from}
use Rattle.single_loss.specs.Answer.{loss_refusal, culprit_at, loss_answer}
use Rattle.single_loss.specs.Claims.{Means}
use Rattle.single_loss.proofs.Smallest.{answer_means}
use Rattle.post_single_loss.specs.Call.{number_of, loss_number, loss_judged}

-- what is not refused behind a judgement was not refused by it
behind : (j k : Judged) → code_of (if_accepted j k j) ≡ 0 → j ≡ Ok tt
behind (Ok u) k e = refl
behind (Err r) k e = absurd (refuses r e)

-- at most 60 records are read
few-read : (b : List ℕ) → read_refusal b ≡ Ok tt → length (frames_in b) ≤ 60
unfolding read_of
few-read b h =
    let e = answered_ok (read_refusal b) _ h in
    subst (λ n. n ≤ 60) (frames_count b _ e) (few b _ e)

module _ (b : List ℕ) (l : ℤ) where
  pub refused : {e : Refusal} → loss_answer b l ≡ Err e → loss_refusal b l ≡ Err e
  unfolding loss_answer
  refused h = judged_err (loss_refusal b l) _ h

  few-frames : code_of (loss_refusal b l) ≡ 0 → length (frames_in b) ≤ 60
  unfolding loss_refusal
  few-frames e = few-read b (behind (read_refusal b) _ e)

  bounded : (c : Option ℕ) → Means b l (Ok c) → number_of c ≤ 60
  unfolding number_of
  bounded (Some m) h = let f = few-frames h.0 in omega (arith, h.1.number, h.1.inside, f)
  bounded None h = omega arith

  module _ {c : Option ℕ} (h : loss_answer b l ≡ Ok c) where
    is : (code_of (loss_refusal b l) ≡ 0) × (first_from (culprit_at b l) 0 (length (frames_in b)) ≡ c)
    unfolding loss_answer
    is = answered_is (loss_refusal b l) _ c h

    pub not_refused : loss_refusal b l ≡ Ok tt
    not_refused = accepted (loss_refusal b l) is.0

    pub named : number_of c ≡ loss_number b l
    unfolding loss_number
    named = sym (ap number_of is.1)

    pub small : number_of c ≤ 60
    small = bounded c (subst (Means b l) h (answer_means b l))

  -- the row of the slice's length, as the code judges it
  module _ (n : List ℤ) {q : Judged} (r : q ≡ first_of ((ltb (length n) 1 gives Record) ∷ [])) where
    pub too_short : {e : Refusal} → q ≡ Err e → loss_judged b l n ≡ Err e
    unfolding loss_judged first_of
    too_short {e} h = go (ltb (length n) 1) (sym r ∙ h)
      where
        go : (t : Bool) → first_of ((t gives Record) ∷ []) ≡ Err e → cond t (Err Record) (loss_refusal b l) ≡ Err e
        go true k = k
        go false k = absurd (false≢true (ap is_ok (sym k)))

    pub enough : q ≡ Ok tt → ltb (length n) 1 ≡ false
    enough h = (clear ((ltb (length n) 1 gives Record) ∷ []) (ap code_of (sym r ∙ h))).0

    pub by_content : q ≡ Ok tt → loss_judged b l n ≡ loss_refusal b l
    unfolding loss_judged
    by_content h = rw (enough h) refl
