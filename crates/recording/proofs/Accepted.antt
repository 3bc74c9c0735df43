-- What is known of a recording that is read.
use Prim.Native.Nat.{ℕ, zero, suc, ◌+◌, ◌*◌, ◌≤◌}
use mathlib.Core.Path.{◌≡◌, sym, ap, ◌∙◌}
use mathlib.Core.Bool.{false≢true}
use mathlib.Core.List.{List, [], ◌∷◌, map}
use native.Mathlib.Omega.{arith}
use lib.ListN.{length, get_or, take, length-map}
use Rattle.std.specs.Prelude.{Result, Ok, Err, is_ok}
use Rattle.refusal.specs.Refusals.{Judged, code_of, answered}
use Rattle.refusal.specs.declared.Refusal.{Refusal}
use Rattle.refusal.proofs.Clear.{answered_is}
use Rattle.chain.specs.Chain.{chain_of, on_chain, padded}
use Rattle.chain.proofs.Records.{padded-front}
use Rattle.recording.specs.Frames.{rate_in, count_in, recorded_at, frames_in, Inside}
use Rattle.recording.specs.Reading.{read_refusal, read_of}
use Rattle.recording.specs.declared.Recording.{Recording}
use Rattle.recording.proofs.Answers.{Clear, rows-clear, few-frames, inside}

-- what it is refused by
pub not_read : (b : List ℕ) {f : Refusal} → read_of b ≡ Err f → read_refusal b ≡ Err f
unfolding read_of
not_read b {f} h = go _ (read_refusal b) h
  where
    row : {A : Type 0} → Refusal → Result A Refusal → Refusal
    row d (Ok x) = d
    row d (Err r) = r

    go : (x : Recording) (j : Judged) → answered j x ≡ Err f → j ≡ Err f
    go x (Ok u) k = absurd (false≢true (sym (ap is_ok k)))
    go x (Err r) k = ap (λ (q : Result Recording Refusal). Err (row r q)) k

take-below : (n : ℕ) (l : List ℕ) (k : ℕ) → get_or (take n l) k 0 ≤ get_or l k 0
take-below zero l k = omega arith
take-below (suc n) [] k = omega arith
take-below (suc n) (x ∷ l) zero = omega arith
take-below (suc n) (x ∷ l) (suc k) = take-below n l k

module _ (b : List ℕ) (r : Recording) (e : read_of b ≡ Ok r) where
  both : (code_of (read_refusal b) ≡ 0) × (record { rate = rate_in b; subframes = count_in b; frames = length (on_chain (chain_of b)); records = padded (on_chain (chain_of b)) } ≡ r)
  unfolding read_of
  both = answered_is (read_refusal b) _ r e

  pub read-well : code_of (read_refusal b) ≡ 0
  read-well = both.0

  pub rows : Clear b
  rows = rows-clear b read-well

  pub rate_is : r.rate ≡ rate_in b
  rate_is = ap (λ (q : Recording). q.rate) (sym both.1)

  pub count_is : r.subframes ≡ count_in b
  count_is = ap (λ (q : Recording). q.subframes) (sym both.1)

  pub frames_are : r.frames ≡ length (on_chain (chain_of b))
  frames_are = ap (λ (q : Recording). q.frames) (sym both.1)

  pub few : r.frames ≤ 60
  few = rw frames_are (few-frames b rows.whole)

  pub on-chain : take r.frames r.records ≡ on_chain (chain_of b)
  on-chain = ap (λ (q : Recording). take q.frames q.records) (sym both.1) ∙ padded-front (on_chain (chain_of b))

  -- however many of the first are taken
  pub lies : (n : ℕ) → Inside b (take n r.records)
  lies n k =
      let l = take-below n r.records k in
      let h : 1024 * get_or r.records k 0 + 1024 ≤ length b = rw (ap (λ (q : Recording). q.records) (sym both.1)) (inside b rows.whole k) in
      omega (arith, l, h)

  pub many : length (take r.frames r.records) ≡ r.frames
  many = ap length on-chain ∙ sym frames_are

  pub frames-back : map (recorded_at b) (take r.frames r.records) ≡ frames_in b
  unfolding frames_in
  frames-back = ap (map (recorded_at b)) on-chain

  pub frames_count : r.frames ≡ length (frames_in b)
  unfolding frames_in
  frames_count = frames_are ∙ sym (length-map (on_chain (chain_of b)) (recorded_at b))
