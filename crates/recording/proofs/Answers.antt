-- What is read of a recording, refused or not.
use Prim.Native.Nat.{ℕ, ◌≤◌, ◌<◌}
use mathlib.Core.Path.{◌≡◌, refl, sym, ap}
use mathlib.Core.Bool.{Bool, true, false, not, ◌&&◌}
use mathlib.Core.List.{List, [], ◌∷◌}
use native.Mathlib.Omega.{arith}
use borrow.Author.Tests.{not-false}
use lib.ListN.{length}
use Rattle.std.specs.Prelude.{Ok, Err}
use Rattle.std.proofs.lemmas.Bool.{and_parts}
use Rattle.refusal.specs.First.{◌gives◌, first_of}
use Rattle.refusal.specs.Refusals.{Judged, code_of}
use Rattle.refusal.specs.declared.Refusal.{Refusal}
use Rattle.refusal.specs.declared.Refusal.TheVariants.{Rate, Size, Chain, Record}
use Rattle.refusal.proofs.Clear.{answered_err, answered_ok}
use Rattle.shape.specs.Shape.{shape, is_rate, is_count}
use Rattle.chain.specs.Chain.{is_whole, records_in, chain_of, is_broken, on_chain, padded}
use Rattle.chain.proofs.Steps.{whole}
use Rattle.chain.proofs.Records.{Chained, chained, padded-length, padded-below}
use Rattle.recording.specs.Frames.{is_head, are_frames, rate_in, count_in, frames_in, described_all, Inside}
use Rattle.recording.specs.Rows.{first_then}
use Rattle.recording.specs.Reading.{read_refusal, read_of}
use Rattle.recording.proofs.Rows.{clear_then, row_met, row-unmet}

module _ (b : List ℕ) where
  pub not_whole : is_whole (length b) ≡ false → read_refusal b ≡ Err Record
  unfolding read_refusal first_then
  not_whole e = rw e refl

  -- the same, as a call judges the length
  module _ {q : Judged} {w : Bool} (j : q ≡ first_of ((not w gives Record) ∷ [])) (l : w ≡ is_whole (length b)) where
    pub stops : {e : Refusal} → q ≡ Err e → read_refusal b ≡ Err e
    unfolding read_refusal
    stops h = row_met Record j (ap not l) _ _ h

    pub passes : q ≡ Ok tt → is_whole (length b) ≡ true
    passes h = not-false (is_whole (length b)) (row-unmet Record j (ap not l) h)

  pub is_broken_lem : is_whole (length b) ≡ true → is_broken (chain_of b) ≡ true → read_refusal b ≡ Err Chain
  unfolding read_refusal first_then
  is_broken_lem e f = rw (e, f) refl

  pub by_content : is_whole (length b) ≡ true → is_broken (chain_of b) ≡ false
      → read_refusal b
      ≡ first_then ((not (is_head b && are_frames b (on_chain (chain_of b))) gives Record) ∷ (not (is_rate (rate_in b)) gives Rate) ∷ (not (is_count (count_in b)) gives Size) ∷ [])
      (described_all (shape (rate_in b) (count_in b)) (frames_in b))
  unfolding read_refusal first_then
  by_content e f = rw (e, f) refl

  -- what is read
  pub read-refused : {e : Refusal} → read_refusal b ≡ Err e → Err e ≡ read_of b
  unfolding read_of
  read-refused h = sym (answered_err (read_refusal b) _ h)

  pub read-accepted : read_refusal b ≡ Ok tt
      → Ok (record { rate = rate_in b; subframes = count_in b; frames = length (on_chain (chain_of b)); records = padded (on_chain (chain_of b)) }) ≡ read_of b
  unfolding read_of
  read-accepted h = sym (answered_ok (read_refusal b) _ h)

  -- the records of a chain
  module _ (e : is_whole (length b) ≡ true) where
    some : 0 < records_in b
    unfolding records_in
    some = (whole (length b) e).some

    pub enough : 1024 ≤ length b
    enough = let w = whole (length b) e in omega (arith, w.all, w.some)

    pub padded_60 : length (padded (on_chain (chain_of b))) ≡ 60
    unfolding records_in
    padded_60 =
        let w = whole (length b) e in
        let f = (chained b some).few in
        padded-length (on_chain (chain_of b)) (omega (arith, f, w.most))

    pub on_chain_lem : Chained b (on_chain (chain_of b))
    on_chain_lem = chained b some

    pub few-frames : length (on_chain (chain_of b)) ≤ 60
    unfolding records_in
    few-frames = let w = whole (length b) e in let f = (chained b some).few in omega (arith, f, w.most)

    pub inside : Inside b (padded (on_chain (chain_of b)))
    unfolding records_in
    inside k =
        let w = whole (length b) e in
        let l = padded-below (on_chain (chain_of b)) (records_in b) some (chained b some).below k in
        omega (arith, w.all, l)

    pub inside_chain : Inside b (on_chain (chain_of b))
    unfolding records_in
    inside_chain k =
        let w = whole (length b) e in
        let l = (chained b some).below k in
        omega (arith, w.all, l)

  -- nothing is refused
  pub record Clear : Type 0 where
    pub whole : is_whole (length b) ≡ true
    pub chain : is_broken (chain_of b) ≡ false
    pub head : is_head b ≡ true
    pub frames : are_frames b (on_chain (chain_of b)) ≡ true
    pub rate : is_rate (rate_in b) ≡ true
    pub count : is_count (count_in b) ≡ true
    pub described : code_of (described_all (shape (rate_in b) (count_in b)) (frames_in b)) ≡ 0

  pub rows-clear : code_of (read_refusal b) ≡ 0 → Clear
  unfolding read_refusal
  rows-clear a =
      let k = clear_then ((not (is_whole (length b)) gives Record) ∷ (is_broken (chain_of b) gives Chain) ∷ (not (is_head b && are_frames b (on_chain (chain_of b))) gives Record) ∷ (not (is_rate (rate_in b)) gives Rate) ∷ (not (is_count (count_in b)) gives Size) ∷ []) (described_all (shape (rate_in b) (count_in b)) (frames_in b)) a in
      let c = k.0 in
      let h = and_parts (is_head b) (are_frames b (on_chain (chain_of b))) (not-false (is_head b && are_frames b (on_chain (chain_of b))) c.1.1.0) in
      record {
        whole = not-false (is_whole (length b)) c.0;
        chain = c.1.0;
        head = h.0;
        frames = h.1;
        rate = not-false (is_rate (rate_in b)) c.1.1.1.0;
        count = not-false (is_count (count_in b)) c.1.1.1.1.0;
        described = k.1;
      }
