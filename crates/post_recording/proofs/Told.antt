-- What is told of a recording that is read.
use Prim.Native.Nat.{ℕ, zero, suc, ◌-◌, ◌≤◌, ◌<◌}
use mathlib.Core.Path.{◌≡◌, refl, sym, ap, ◌∙◌}
use mathlib.Core.List.{List, [], ◌∷◌, ◌++◌, map}
use mathlib.Core.Bool.{◌||◌}
use native.Mathlib.Omega.{arith}
use borrow.Author.Tests.{eqb-false, ltb-false}
use lib.Dec.{eqb, ltb}
use lib.IntN.{pos}
use lib.ListN.{length, get_or, replicate}
use Rattle.std.specs.Prelude.{Ok, Err}
use Rattle.std.specs.List.{range_with_len}
use Rattle.std.proofs.lemmas.List.{get_or-map}
use Rattle.refusal.specs.First.{◌gives◌, first_of}
use Rattle.refusal.specs.Refusals.{Judged, code_of}
use Rattle.refusal.specs.declared.Refusal.{Refusal}
use Rattle.refusal.specs.declared.Refusal.TheVariants.{Chain}
use Rattle.word.proofs.Rows.{neither}
use Rattle.refusal.proofs.Clear.{answered_is, accepted, clear}
use Rattle.record.specs.Recorded.{Recorded, lost}
use Rattle.chain.specs.Chain.{chain_of, on_chain, padded}
use Rattle.recording.specs.Frames.{rate_in, count_in, recorded_at, frames_in}
use Rattle.recording.specs.Reading.{read_refusal, read_of}
use Rattle.recording.specs.declared.Recording.{Recording}
use Rattle.recording.proofs.Accepted.{read-well}
use Rattle.post_recording.specs.Reading.{places, head_numbers, head_of, frame_at, number_refusal}

-- behind the records there are zeros
behind-zeros : (n k : ℕ) → get_or {A = ℕ} (replicate n 0) k 0 ≡ 0
behind-zeros zero k = refl
behind-zeros (suc n) zero = refl
behind-zeros (suc n) (suc k) = behind-zeros n k

behind : (ks : List ℕ) (n k : ℕ) → get_or (ks ++ replicate n 0) k 0 ≡ get_or ks k 0
behind [] n k = behind-zeros n k
behind (x ∷ ks) n zero = refl
behind (x ∷ ks) n (suc k) = behind ks n k

padded_places : (ks : List ℕ) → places (padded ks) ≡ places ks
unfolding padded
padded_places ks = λ i. map (λ k. pos (behind ks (60 - length ks) k i)) (range_with_len 0 59)

module _ (b : List ℕ) (r : Recording) (e : read_of b ≡ Ok r) where
  pub head_is : head_of r ≡ head_numbers b
  unfolding read_of head_of head_numbers
  head_is =
      let t = answered_is (read_refusal b) _ r e in
      let ks = on_chain (chain_of b) in
      ap head_of (sym t.1) ∙ (λ i. rate_in b ∷ count_in b ∷ pos (length ks) ∷ padded_places ks i)

  pub read_is : read_refusal b ≡ Ok tt
  read_is = accepted (read_refusal b) (read-well b r e)

-- frames are counted from 1
module _ (b : List ℕ) (n : ℕ) where
  -- the row of the number, as a call judges it
  module _ {q : Judged} {m : ℕ} (j : q ≡ first_of (((eqb n 0 || ltb m n) gives Chain) ∷ [])) (a : read_refusal b ≡ Ok tt) (c : m ≡ length (frames_in b)) where
    pub by_number : q ≡ number_refusal b n
    unfolding number_refusal
    by_number = rw a (j ∙ ap (λ (k : ℕ). first_of (((eqb n 0 || ltb k n) gives Chain) ∷ [])) c)

  pub not_read_either : {e : Refusal} → read_refusal b ≡ Err e → number_refusal b n ≡ Err e
  unfolding number_refusal
  not_read_either h = rw h refl

  pub frame_is : (ks : List ℕ) → map (recorded_at b) ks ≡ frames_in b → n - 1 < length ks → recorded_at b (get_or ks (n - 1) 0) ≡ frame_at b n
  unfolding frame_at
  frame_is ks h l = sym (get_or-map (recorded_at b) ks (n - 1) 0 lost l) ∙ ap (λ (xs : List Recorded). get_or xs (n - 1) lost) h

-- a number that is not refused
pub counted : {q : Judged} (n m : ℕ) → q ≡ first_of (((eqb n 0 || ltb m n) gives Chain) ∷ []) → q ≡ Ok tt → (1 ≤ n) × (n ≤ m)
counted n m j h =
    let z = neither (eqb n 0) (ltb m n) ((clear (((eqb n 0 || ltb m n) gives Chain) ∷ []) (ap code_of (sym j ∙ h))).0) in
    (positive n (eqb-false n 0 z.0), ltb-false m n z.1)
  where
    positive : (k : ℕ) → (k ≡ 0 → ⊥) → 1 ≤ k
    positive zero f = absurd (f refl)
    positive (suc k) f = omega arith
