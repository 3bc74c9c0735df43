-- A recording that is read in order is written as the same bytes.
use Prim.Native.Nat.{ℕ, zero, suc, ◌+◌, ◌-◌, ◌*◌, ◌/◌, ◌≤◌, ◌<◌}
use mathlib.Core.Path.{◌≡◌, refl, sym, ap, ◌∙◌, subst}
use mathlib.Core.Bool.{Bool, true, false, cond, ◌||◌, false≢true}
use mathlib.Core.List.{List, [], ◌∷◌, ◌++◌, append_assoc, append-nil, map}
use native.Mathlib.Omega.{arith}
use native.Mathlib.Nat.{mod-eq_of_lt}
use borrow.Author.Tests.{eqb-true, ltb-true, ltb-false}
use lib.Dec.{eqb, ltb, leb}
use lib.IntN.{pos}
use lib.ListN.{length, get_or, take, drop, replicate, length-append, length-drop, length-replicate, get_or-replicate, take-append-drop, drop_of_length-le, replicate-append-replicate, get_or-append}
use lib.Seq.{drop-drop, take-add, take-suc, drop-cons, get_or-take, get_or-drop, get_or-append_seam, length-take-le, ext_get_or, take_all, append_snoc}
use Rattle.le.specs.Bytes.{Bytes, bytes_of, number_of, unsigned_at, same}
use Rattle.le.proofs.Numbers.{bytes_of-number}
use Rattle.le.proofs.Packing.{drop-bytes, take-bytes}
use Rattle.record.specs.Recorded.{Recorded, recorded_in, record_bytes}
use Rattle.record.proofs.Ways.{read_is_written}
use Rattle.std.specs.Prelude.{Option, Some, None, codes}
use Rattle.std.proofs.lemmas.Bool.{and_parts}
use Rattle.chain.specs.Chain.{records_in, next_of, is_among, chain_from, chain_of, is_broken, on_chain}
use Rattle.chain.proofs.Steps.{whole}
use Rattle.recording.specs.Frames.{zeros, is_head, rate_in, count_in, is_frame, are_frames, recorded_at, frames_in}
use Rattle.recording.proofs.Answers.{rows-clear}
use Rattle.recorder.specs.Writing.{head_bytes, frame_bytes, link_to, frames_to, recording_to, recording_bytes}
use Rattle.round_trip.specs.Claims.{up_from, ReadIsWritten}

-- bytes that are zeros
zero_at : (b : List ℕ) (at n : ℕ) → zeros b at n ≡ true → (j : ℕ) → j < n → get_or b (at + j) 0 ≡ 0
unfolding zeros
zero_at b at zero e j h = elim h [ ]
zero_at b at (suc n) e j h = go (zero_at b at n) (ltb j n) refl
  where
    s : (zeros b at n ≡ true) × (eqb (get_or b (at + n) 0) 0 ≡ true)
    s = and_parts (zeros b at n) (eqb (get_or b (at + n) 0) 0) e

    go : (zeros b at n ≡ true → (j : ℕ) → j < n → get_or b (at + j) 0 ≡ 0) → (t : Bool) → ltb j n ≡ t → get_or b (at + j) 0 ≡ 0
    go again true p = again s.0 j (ltb-true j n p)
    go again false p =
        let q : j ≡ n = let l = ltb-false j n p in omega arith in
        ap (λ (k : ℕ). get_or b (at + k) 0) q ∙ eqb-true (get_or b (at + n) 0) 0 s.1

zeros_of : (b : List ℕ) (at n : ℕ) → at + n ≤ length b → zeros b at n ≡ true → take n (drop at b) ≡ replicate n 0
zeros_of b at n h e =
    let l : length (take n (drop at b)) ≡ n = length-take-le n (drop at b) (rw (length-drop at b) (omega arith)) in
    ext_get_or 0 (take n (drop at b)) (replicate n 0) (l ∙ sym (length-replicate {A = ℕ} n 0))
    (λ j k.
    let m : j < n = rw (sym l) k in
    get_or-take n (drop at b) j 0 m ∙ get_or-drop at b j 0 ∙ zero_at b at n e j m ∙ sym (get_or-replicate n j 0 0 m))

fewer : (b : List ℕ) (at m n : ℕ) → zeros b at (m + n) ≡ true → zeros b at m ≡ true
unfolding zeros
fewer b at m zero e =
    let z : m + 0 ≡ m = omega arith in
    subst (λ (k : ℕ). zeros b at k ≡ true) z e
fewer b at m (suc n) e =
    let z : m + suc n ≡ suc (m + n) = omega arith in
    fewer b at m n (and_parts (zeros b at (m + n)) (eqb (get_or b (at + (m + n)) 0) 0) (subst (λ (k : ℕ). zeros b at k ≡ true) z e)).0

-- a record's next number
next-bytes : (b : List ℕ) (i : ℕ) → Bytes b → 1024 * i + 2 ≤ length b → bytes_of 2 (pos (next_of b i)) ≡ take 2 (drop (1024 * i) b)
unfolding next_of unsigned_at
next-bytes b i t h =
    let c : List ℕ = take 2 (drop (1024 * i) b) in
    let l : length c ≡ 2 = length-take-le 2 (drop (1024 * i) b) (rw (length-drop (1024 * i) b) (omega arith)) in
    subst (λ (n : ℕ). bytes_of n (pos (number_of c)) ≡ c) l (bytes_of-number c (take-bytes 2 (drop (1024 * i) b) (drop-bytes (1024 * i) b t)))

-- parts of a part
part-more : (b : List ℕ) (at m n : ℕ) → take m (drop at b) ++ take n (drop (at + m) b) ≡ take (m + n) (drop at b)
part-more b at m n = ap (λ (c : List ℕ). take m (drop at b) ++ take n c) (sym (drop-drop m at b)) ∙ sym (take-add m n (drop at b))

-- the record of a frame that is read
module _ (b : List ℕ) (i : ℕ) (t : Bytes b) (h : 1024 * i + 1024 ≤ length b) (e : is_frame b i ≡ true) where
  abbrev at : ℕ
  at = 1024 * i + 2

  kind-is : get_or (drop at b) 0 0 ≡ get_or b at 0
  kind-is =
      let z : at + 0 ≡ at = omega arith in
      get_or-drop at b 0 0 ∙ ap (λ (n : ℕ). get_or b n 0) z

  body : record_bytes (recorded_at b i) ++ replicate 205 0 ≡ take 1022 (drop at b)
  unfolding recorded_at is_frame
  body = go (eqb (get_or b at 0) 1) refl e
    where
      w : (get_or (drop at b) 0 0 ≡ 1 → record_bytes (recorded_in (drop at b)) ≡ take 817 (drop at b)) × (take 817 (drop at b) ≡ replicate 817 0 → record_bytes (recorded_in (drop at b)) ≡ take 817 (drop at b))
      w = read_is_written (drop at b) (drop-bytes at b t) (rw (length-drop at b) (omega arith))

      go : (a : Bool) → eqb (get_or b at 0) 1 ≡ a → cond a (zeros b (at + 817) 205) (zeros b at 1022) ≡ true → record_bytes (recorded_in (drop at b)) ++ replicate 205 0 ≡ take 1022 (drop at b)
      go true p z =
          (λ j. w.0 (kind-is ∙ eqb-true (get_or b at 0) 1 p) j ++ sym (zeros_of b (at + 817) 205 (omega arith) z) j) ∙ part-more b at 817 205
      go false p z =
          let all : take 1022 (drop at b) ≡ replicate 1022 0 = zeros_of b at 1022 (omega arith) z in
          let first : take 817 (drop at b) ≡ replicate 817 0 = zeros_of b at 817 (omega arith) (fewer b at 817 205 z) in
          (λ j. (w.1 first ∙ first) j ++ replicate 205 0) ∙ replicate-append-replicate 817 205 0 ∙ sym all

  pub frame-again : frame_bytes (next_of b i) (recorded_at b i) ≡ take 1024 (drop (1024 * i) b)
  unfolding frame_bytes
  frame-again =
      append_assoc (bytes_of 2 (pos (next_of b i))) (record_bytes (recorded_at b i)) (replicate 205 0)
      ∙ (λ j. next-bytes b i t (omega arith) j ++ body j) ∙ part-more b (1024 * i) 2 1022

-- what is on a chain begins with what was met
extends : (b : List ℕ) (left : ℕ) (met : List ℕ) (i : ℕ) (ks : List ℕ) → chain_from b left met i ≡ Some ks → (j : ℕ) → j < length met → get_or ks j 0 ≡ get_or met j 0
unfolding chain_from on_chain is_broken
extends b zero met i ks e j h = go (eqb (next_of b i) 0) e
  where
    go : (t : Bool) → cond t (Some met) None ≡ Some ks → get_or ks j 0 ≡ get_or met j 0
    go true p = ap (λ (c : Option (List ℕ)). get_or (on_chain c) j 0) (sym p)
    go false p = absurd (false≢true (sym (ap is_broken p)))
extends b (suc left) met i ks e j h = go (extends b left (met ++ next_of b i ∷ []) (next_of b i) ks) (eqb (next_of b i) 0) (leb (records_in b) (next_of b i) || is_among (next_of b i) met) e
  where
    go : (chain_from b left (met ++ next_of b i ∷ []) (next_of b i) ≡ Some ks → (j : ℕ) → j < length (met ++ next_of b i ∷ []) → get_or ks j 0 ≡ get_or (met ++ next_of b i ∷ []) j 0)
        → (t s : Bool) → cond t (Some met) (cond s None (chain_from b left (met ++ next_of b i ∷ []) (next_of b i))) ≡ Some ks → get_or ks j 0 ≡ get_or met j 0
    go again true s p = ap (λ (c : Option (List ℕ)). get_or (on_chain c) j 0) (sym p)
    go again false true p = absurd (false≢true (sym (ap is_broken p)))
    go again false false p = again p j (omega (arith, length-append met (next_of b i ∷ []))) ∙ get_or-append met (next_of b i ∷ []) 0 j h

-- each of the records from i on leads to the next, and the last to none
abbrev Ordered : List ℕ → ℕ → ℕ → Type 0
Ordered b i zero = next_of b i ≡ 0
Ordered b i (suc left) = (next_of b i ≡ suc i) × Ordered b (suc i) left

ordered : (b : List ℕ) (left : ℕ) (met : List ℕ) (i : ℕ) → chain_from b left met i ≡ Some (met ++ up_from (suc i) left) → Ordered b i left
unfolding chain_from up_from on_chain is_broken
ordered b zero met i e = go (eqb (next_of b i) 0) refl e
  where
    go : (t : Bool) → eqb (next_of b i) 0 ≡ t → cond t (Some met) None ≡ Some (met ++ []) → next_of b i ≡ 0
    go true q p = eqb-true (next_of b i) 0 q
    go false q p = absurd (false≢true (sym (ap is_broken p)))
ordered b (suc left) met i e = go (ordered b left (met ++ next_of b i ∷ []) (next_of b i)) (eqb (next_of b i) 0) (leb (records_in b) (next_of b i) || is_among (next_of b i) met) e
  where
    ks : List ℕ
    ks = met ++ suc i ∷ up_from (suc (suc i)) left

    go : (chain_from b left (met ++ next_of b i ∷ []) (next_of b i) ≡ Some ((met ++ next_of b i ∷ []) ++ up_from (suc (next_of b i)) left) → Ordered b (next_of b i) left)
        → (t s : Bool) → cond t (Some met) (cond s None (chain_from b left (met ++ next_of b i ∷ []) (next_of b i))) ≡ Some (met ++ suc i ∷ up_from (suc (suc i)) left)
        → (next_of b i ≡ suc i) × Ordered b (suc i) left
    go again true s p =
        absurd (omega (arith, ap (λ (c : Option (List ℕ)). length (on_chain c)) p, length-append met (suc i ∷ up_from (suc (suc i)) left)))
    go again false true p = absurd (false≢true (sym (ap is_broken p)))
    go again false false p =
        let m = met ++ next_of b i ∷ [] in
        let n : next_of b i ≡ suc i =
        sym (get_or-append_seam met (next_of b i) [] 0) ∙ sym (extends b left m (next_of b i) ks p (length met) (omega (arith, length-append met (next_of b i ∷ []))))
        ∙ get_or-append_seam met (suc i) (up_from (suc (suc i)) left) 0 in
        let q : chain_from b left m (next_of b i) ≡ Some (m ++ up_from (suc (next_of b i)) left) =
        p ∙ ap Some (sym (append_snoc met (suc i) (up_from (suc (suc i)) left))) ∙ ap (λ (k : ℕ). Some (met ++ k ∷ [] ++ up_from (suc k) left)) (sym n) in
        (n, subst (λ (k : ℕ). Ordered b k left) n (again q))

link_is : (b : List ℕ) (i n : ℕ) (f : ℕ → Recorded) → Ordered b i n → link_to 0 (suc i) (map f (up_from (suc i) n)) ≡ next_of b i
unfolding link_to up_from
link_is b i zero f o = sym o
link_is b i (suc n) f o = sym o.0

-- the records of frames that are read in order
frames-again : (b : List ℕ) (n i : ℕ) → Bytes b → 1024 * (i + suc n) ≡ length b → Ordered b i n → are_frames b (up_from i (suc n)) ≡ true
    → frames_to 0 i (map (recorded_at b) (up_from i (suc n))) ≡ drop (1024 * i) b
unfolding frames_to up_from are_frames
frames-again b zero i t l o a =
    let f = and_parts (is_frame b i) true a in
    let k : 1024 * i + 1024 ≡ length b = omega arith in
    append-nil (frame_bytes (link_to 0 (suc i) []) (recorded_at b i)) ∙ ap (λ (m : ℕ). frame_bytes m (recorded_at b i)) (link_is b i 0 (recorded_at b) o)
    ∙ frame-again b i t (omega arith) f.0
    ∙ take_all 1024 (drop (1024 * i) b) (omega (arith, length-drop (1024 * i) b))
frames-again b (suc n) i t l o a =
    let f = and_parts (is_frame b i) (are_frames b (suc i ∷ up_from (suc (suc i)) n)) a in
    let m : 1024 * (suc i + suc n) ≡ length b = omega arith in
    let s : 1024 * suc i ≡ 1024 * i + 1024 = omega arith in
    (λ j. (ap (λ (m : ℕ). frame_bytes m (recorded_at b i)) (link_is b i (suc n) (recorded_at b) o) ∙ frame-again b i t (omega arith) f.0) j
    ++ (frames-again b n (suc i) t m o.1 f.1 ∙ ap (λ (m : ℕ). drop m b) s ∙ sym (drop-drop 1024 (1024 * i) b)) j)
    ∙ take-append-drop 1024 (drop (1024 * i) b)

same-part : (a m : List ℕ) (n : ℕ) → n ≤ length a → n ≤ length m → same a m n ≡ true → take n a ≡ take n m
unfolding same
same-part a m zero h k e = refl
same-part a m (suc n) h k e =
    let s = and_parts (same a m n) (eqb (get_or a n 0) (get_or m n 0)) e in
    take-suc a n 0 h ∙ (λ i. same-part a m n (omega arith) (omega arith) s.0 i ++ eqb-true (get_or a n 0) (get_or m n 0) s.1 i ∷ []) ∙ sym (take-suc m n 0 k)

one_byte : (b : List ℕ) (at : ℕ) → Bytes b → at < length b → bytes_of 1 (pos (get_or b at 0)) ≡ take 1 (drop at b)
one_byte b at t h = ap (λ (n : ℕ). n ∷ []) (mod-eq_of_lt (t at)) ∙ sym (ap (take 1) (drop-cons b at 0 h))

head_again : (b : List ℕ) → Bytes b → 1024 ≤ length b → is_head b ≡ true → head_bytes (next_of b 0) (rate_in b) (count_in b) ≡ take 1024 b
unfolding is_head head_bytes
head_again b t h e =
    let s = and_parts (same (drop 2 b) (codes "YARD") 4) (zeros b 8 1016) e in
    let m : codes "YARD" ≡ take 4 (drop 2 b) = sym (same-part (drop 2 b) (codes "YARD") 4 (omega (arith, length-drop 2 b)) (omega arith) s.0) in
    let z = zeros_of b 8 1016 (omega arith) s.1 in
    (λ i. next-bytes b 0 t (omega arith) i ++ m i ++ one_byte b 6 t (omega arith) i ++ one_byte b 7 t (omega arith) i ++ sym z i)
    ∙ ap (λ (c : List ℕ). c ++ take 1 (drop 6 b) ++ take 1 (drop 7 b) ++ take 1016 (drop 8 b)) (part-more b 0 2 4)
    ∙ ap (λ (c : List ℕ). c ++ take 1 (drop 7 b) ++ take 1016 (drop 8 b)) (part-more b 0 6 1)
    ∙ ap (λ (c : List ℕ). c ++ take 1016 (drop 8 b)) (part-more b 0 7 1)
    ∙ part-more b 0 8 1016

unbroken : (c : Option (List ℕ)) → is_broken c ≡ false → c ≡ Some (on_chain c)
unfolding is_broken on_chain
unbroken (Some ks) e = refl
unbroken None e = absurd (false≢true (sym e))

-- record 0 and the records of m frames
whole_again : (b : List ℕ) (m : ℕ) → Bytes b → 1024 * suc m ≡ length b → is_head b ≡ true → Ordered b 0 m → are_frames b (up_from 1 m) ≡ true
    → recording_bytes (rate_in b) (count_in b) (map (recorded_at b) (up_from 1 m)) ≡ b
unfolding recording_to frames_to up_from
whole_again b m t l h o f =
    (λ i. (ap (λ (k : ℕ). head_bytes k (rate_in b) (count_in b)) (link_is b 0 m (recorded_at b) o) ∙ head_again b t (omega arith) h) i ++ rest m l o f i)
    ∙ take-append-drop 1024 b
  where
    rest : (m : ℕ) → 1024 * suc m ≡ length b → Ordered b 0 m → are_frames b (up_from 1 m) ≡ true → frames_to 0 1 (map (recorded_at b) (up_from 1 m)) ≡ drop 1024 b
    rest zero l o f = sym (drop_of_length-le b {i = 1024} (omega arith))
    rest (suc m) l o f =
        let n : 1024 * (1 + suc m) ≡ length b = omega arith in
        frames-again b m 1 t n o.1 f

pub read_again : ReadIsWritten
unfolding frames_in chain_of records_in
read_again b t a o =
    let r = rows-clear b a in
    let w = whole (length b) r.whole in
    let m : ℕ = records_in b - 1 in
    let l : 1024 * suc (length b / 1024 - 1) ≡ length b = omega (arith, w.all, w.some) in
    let s = ordered b m [] 0 (unbroken (chain_of b) r.chain ∙ ap Some o) in
    ap (λ (ks : List ℕ). recording_bytes (rate_in b) (count_in b) (map (recorded_at b) ks)) o
    ∙ whole_again b m t l r.head s (subst (λ (ks : List ℕ). are_frames b ks ≡ true) o r.frames)
