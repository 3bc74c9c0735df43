-- What appends in order leave, and what they take.
use Prim.Native.Nat.{ℕ, zero, suc, ◌+◌, ◌*◌, ◌≤◌, ◌<◌}
use mathlib.Core.Path.{◌≡◌, refl, sym, ap, ◌∙◌}
use mathlib.Core.Bool.{true, false, not, ◌&&◌}
use mathlib.Core.List.{List, [], ◌∷◌, ◌++◌, append_assoc, append-nil}
use native.Mathlib.Omega.{arith}
use native.Mathlib.Numerals.{add-one}
use borrow.Author.Tests.{eq-eqb, le-leb, le-ltb, ltb-false, not-false}
use lib.Dec.{leb, ltb}
use lib.IntN.{ℤ, pos}
use lib.ListN.{length, get_or, drop, replicate, length-append, length-drop, length-replicate, get_or-replicate, get_or-append}
use lib.Seq.{drop-drop, get_or-drop, append_snoc}
use Rattle.word.specs.Int.{eq_ℤ, mod_ℤ}
use Rattle.word.proofs.Order.{eq_ℤ_refl}
use native.Mathlib.Nat.{mod-eq_of_lt}
use Rattle.le.specs.Bytes.{bytes_of, with_bytes, same}
use Rattle.std.specs.Prelude.{Ok, Err}
use Rattle.std.proofs.lemmas.Bool.{and_parts}
use Rattle.std.proofs.lemmas.List.{length_push}
use Rattle.refusal.specs.First.{◌gives◌}
use Rattle.refusal.specs.Refusals.{Judged, code_of, if_accepted}
use Rattle.refusal.specs.declared.Refusal.TheVariants.{Rate, Size, Record}
use Rattle.refusal.proofs.Clear.{accepted, clear, passed}
use Rattle.refusal.proofs.Earliest.{one_of_two, earlier-clear}
use Rattle.shape.specs.Shape.{shape, is_rate, is_count, rate_of, count_of}
use Rattle.shape.proofs.Shapes.{rate_kept, count_kept, rate_le, count_le}
use Rattle.record.specs.Recorded.{Recorded}
use Rattle.recording.specs.Frames.{zeros, is_head, rate_in, count_in, described, described_all}
use Rattle.recording.proofs.Rows.{clear_then, passed_then}
use Rattle.recorder.specs.Writing.{Left, head_bytes, frames_to, link_to, recording_to, recording_bytes, begin_refusal, begin_of, has_pulses, has_room, head_rows, append_refusal, appended, append_of}
use Rattle.recorder.proofs.Laws.{room}
use Rattle.round_trip.specs.Claims.{appends_of, write_of, size, All, InOrder, WriterTakes}
use Rattle.round_trip.proofs.Records.{head_rest, length_recording, recording_parts, appended-more, with-start, length_head}

-- n bytes that are 0
pub zeros_are : (b : List ℕ) (at n : ℕ) → ((j : ℕ) → j < n → get_or b (at + j) 0 ≡ 0) → zeros b at n ≡ true
unfolding zeros
zeros_are b at zero h = refl
zeros_are b at (suc n) h = rw (zeros_are b at n (λ j l. h j (omega arith)), eq-eqb (get_or b (at + n) 0) 0 (h n (omega arith)))

pub zeros-at : (b : List ℕ) (at n : ℕ) (q : List ℕ) → drop at b ≡ replicate n 0 ++ q → zeros b at n ≡ true
zeros-at b at n q e =
    zeros_are b at n
    (λ j h. sym (get_or-drop at b j 0) ∙ ap (λ (c : List ℕ). get_or c j 0) e ∙ get_or-append (replicate n 0) q 0 j (rw (length-replicate {A = ℕ} n 0) h) ∙ get_or-replicate n j 0 0 h)

-- a rate and a count are bytes
rate_byte : (khz : ℤ) → is_rate khz ≡ true → pos (mod_ℤ khz 256) ≡ khz
rate_byte khz e =
    let k = rate_kept khz e in
    ap (λ (z : ℤ). pos (mod_ℤ z 256)) k ∙ ap pos (mod-eq_of_lt (let l : rate_of khz < 256 = omega (arith, rate_le khz) in l)) ∙ sym k

count_byte : (nb : ℤ) → is_count nb ≡ true → pos (mod_ℤ nb 256) ≡ nb
count_byte nb e =
    let k = count_kept nb e in
    ap (λ (z : ℤ). pos (mod_ℤ z 256)) k ∙ ap pos (mod-eq_of_lt (let l : count_of nb < 256 = omega (arith, count_le nb) in l)) ∙ sym k

-- record 0 of what is written
module _ (khz nb : ℤ) (e : is_rate khz ≡ true) (f : is_count nb ≡ true) where
  -- bytes that begin with it
  module _ (k : ℕ) (rest : List ℕ) where
    abbrev begun : List ℕ
    begun = bytes_of 2 (pos k) ++ head_rest khz nb ++ rest

    begun-head : is_head begun ≡ true
    unfolding is_head same
    begun-head = rw (zeros-at begun 8 1016 rest refl)

    begun-rate : rate_in begun ≡ khz
    begun-rate = rate_byte khz e

    begun-count : count_in begun ≡ nb
    begun-count = count_byte nb f

  module _ (ys : List Recorded) (d : List ℕ) where
    abbrev bytes : List ℕ
    bytes = recording_bytes khz nb ys ++ d

    parts : bytes ≡ begun (link_to 0 1 ys) (frames_to 0 1 ys ++ d)
    parts =
        recording_parts khz nb ys 0 d
        ∙ append_assoc (bytes_of 2 (pos (link_to 0 1 ys)) ++ head_rest khz nb) (frames_to 0 1 ys) d

    pub head_is : is_head bytes ≡ true
    head_is = ap is_head parts ∙ begun-head (link_to 0 1 ys) (frames_to 0 1 ys ++ d)

    pub rate_is : rate_in bytes ≡ khz
    rate_is = ap rate_in parts ∙ begun-rate (link_to 0 1 ys) (frames_to 0 1 ys ++ d)

    pub count_is : count_in bytes ≡ nb
    count_is = ap count_in parts ∙ begun-count (link_to 0 1 ys) (frames_to 0 1 ys ++ d)

    length-bytes : length bytes ≡ 1024 * suc (length ys) + length d
    length-bytes = length-append (recording_bytes khz nb ys) d ∙ ap (λ (n : ℕ). n + length d) (length_recording 0 khz nb ys)

    -- a frame that is taken
    pub record Takes (x : Recorded) : Type 0 where
      pub few : suc (length ys) ≤ 59
      pub enough : 1024 ≤ length d
      pub rows : code_of (described (shape khz nb) x) ≡ 0

    pub takes : (x : Recorded) → code_of (append_refusal khz nb bytes (length ys) x) ≡ 0 → Takes x
    unfolding append_refusal
    takes x a =
        let c = clear_then ((not (has_room (length bytes) (length ys) && has_pulses x) gives Record) ∷ head_rows khz nb bytes) (described (shape khz nb) x) a in
        let r = room (length bytes) (length ys) (and_parts (has_room (length bytes) (length ys)) (has_pulses x) (not-false (has_room (length bytes) (length ys) && has_pulses x) c.0.0)).0 in
        record { few = omega (arith, r.few); enough = omega (arith, r.enough, length-bytes); rows = c.1 }

    pub taken : (x : Recorded) → suc (length ys) ≤ 59 → 1024 ≤ length d → has_pulses x ≡ true → append_refusal khz nb bytes (length ys) x ≡ described (shape khz nb) x
    unfolding append_refusal has_room
    taken x l m h =
        let a : not (leb (length ys + 2) 60 && leb (1024 * (length ys + 2)) (length bytes) && has_pulses x) ≡ false =
        rw (le-leb (length ys + 2) 60 (omega arith), le-leb (1024 * (length ys + 2)) (length bytes) (omega (arith, length-bytes)), h) in
        let b : not (is_head bytes) ≡ false = rw head_is in
        let r : not (is_rate (rate_in bytes) && eq_ℤ khz (rate_in bytes)) ≡ false = rw (rate_is, e, eq_ℤ_refl khz) in
        let n : not (is_count (count_in bytes) && eq_ℤ nb (count_in bytes)) ≡ false = rw (count_is, f, eq_ℤ_refl nb) in
        passed_then ((not (has_room (length bytes) (length ys) && has_pulses x) gives Record) ∷ head_rows khz nb bytes) (described (shape khz nb) x) (a, (b, (r, (n, tt))))

-- one frame of a list of appends
module _ (khz nb : ℤ) (b : List ℕ) (n : ℕ) (x : Recorded) (xs : List Recorded) where
  goes_on : code_of (append_refusal khz nb b n x) ≡ 0 → appends_of khz nb b n (x ∷ xs) ≡ appends_of khz nb (appended b n x) (suc n) xs
  unfolding appends_of append_of
  goes_on e = rw (accepted (append_refusal khz nb b n x) e) refl

  was-taken : code_of (appends_of khz nb b n (x ∷ xs)).judged ≡ 0 → code_of (append_refusal khz nb b n x) ≡ 0
  unfolding appends_of append_of
  was-taken = go (append_refusal khz nb b n x)
    where
      go : (j : Judged) → code_of (if_accepted j (appends_of khz nb (if_accepted j (appended b n x) b) (suc n) xs) (record { judged = j; bytes = if_accepted j (appended b n x) b })).judged ≡ 0 → code_of j ≡ 0
      go (Ok u) e = refl
      go (Err r) e = e

module _ (khz nb : ℤ) (e : is_rate khz ≡ true) (f : is_count nb ≡ true) where
  -- a frame that is taken, and those behind it
  next : (ys : List Recorded) (d : List ℕ) (x : Recorded) (xs : List Recorded) → code_of (append_refusal khz nb (recording_bytes khz nb ys ++ d) (length ys) x) ≡ 0
      → appends_of khz nb (recording_bytes khz nb ys ++ d) (length ys) (x ∷ xs) ≡ appends_of khz nb (recording_bytes khz nb (ys ++ x ∷ []) ++ drop 1024 d) (length (ys ++ x ∷ [])) xs
  next ys d x xs a =
      let t = takes khz nb e f ys d x a in
      goes_on khz nb (recording_bytes khz nb ys ++ d) (length ys) x xs a
      ∙ (λ i. appends_of khz nb (appended-more khz nb ys d x t.enough i) (sym (length_push ys x ∙ add-one (length ys)) i) xs)

  pub record Taken (ys xs : List Recorded) (d : List ℕ) : Type 0 where
    pub few : length ys + length xs ≤ 59
    pub rows : code_of (described_all (shape khz nb) xs) ≡ 0
    pub bytes : (appends_of khz nb (recording_bytes khz nb ys ++ d) (length ys) xs).bytes ≡ recording_bytes khz nb (ys ++ xs) ++ drop (1024 * length xs) d

  pub all_taken : (ys xs : List Recorded) (d : List ℕ) → length ys ≤ 59 → code_of (appends_of khz nb (recording_bytes khz nb ys ++ d) (length ys) xs).judged ≡ 0 → Taken ys xs d
  unfolding appends_of described_all
  all_taken ys [] d l a =
      record { few = omega arith; rows = refl; bytes = ap (λ (zs : List Recorded). recording_bytes khz nb zs ++ d) (sym (append-nil ys)) }
  all_taken ys (x ∷ xs) d l a =
      let r = was-taken khz nb (recording_bytes khz nb ys ++ d) (length ys) x xs a in
      let t = takes khz nb e f ys d x r in
      let n = next ys d x xs r in
      let ih = all_taken (ys ++ x ∷ []) xs (drop 1024 d) (omega (arith, t.few, length_push ys x)) (sym (ap (λ (k : Left). code_of k.judged) n) ∙ a) in
      let m : 1024 + 1024 * length xs ≡ 1024 * suc (length xs) = omega arith in
      record {
        few = omega (arith, ih.few, length_push ys x);
        rows = one_of_two (described (shape khz nb) x) (described_all (shape khz nb) xs) (λ u. code_of u ≡ 0) t.rows ih.rows;
        bytes =
            ap (λ (k : Left). k.bytes) n ∙ ih.bytes
            ∙ (λ i. recording_bytes khz nb (append_snoc ys x xs i) ++ drop-drop (1024 * length xs) 1024 d i)
            ∙ ap (λ (k : ℕ). recording_bytes khz nb (ys ++ x ∷ xs) ++ drop k d) m;
      }

  pub takes_all : (ys xs : List Recorded) (d : List ℕ) → length ys + length xs ≤ 59 → 1024 * length xs ≤ length d → All (λ x. has_pulses x ≡ true) xs
      → code_of (described_all (shape khz nb) xs) ≡ 0
      → code_of (appends_of khz nb (recording_bytes khz nb ys ++ d) (length ys) xs).judged ≡ 0
  unfolding appends_of described_all
  takes_all ys [] d l m h r = refl
  takes_all ys (x ∷ xs) d l m h r =
      let c = earlier-clear (described (shape khz nb) x) (described_all (shape khz nb) xs) r in
      let a : code_of (append_refusal khz nb (recording_bytes khz nb ys ++ d) (length ys) x) ≡ 0 =
      ap code_of (taken khz nb e f ys d x (omega arith) (omega arith) h.0) ∙ c.0 in
      ap (λ (k : Left). code_of k.judged) (next ys d x xs a)
      ∙ takes_all (ys ++ x ∷ []) xs (drop 1024 d) (omega (arith, length_push ys x)) (omega (arith, length-drop 1024 d)) h.1 c.1

-- the beginning
module _ (khz nb : ℤ) (b : List ℕ) where
  pub record Begun : Type 0 where
    pub enough : 1024 ≤ length b
    pub rate : is_rate khz ≡ true
    pub count : is_count nb ≡ true

  pub begun-with : code_of (begin_refusal khz nb b) ≡ 0 → Begun
  unfolding begin_refusal
  begun-with a =
      let c = clear ((ltb (length b) 1024 gives Record) ∷ (not (is_rate khz) gives Rate) ∷ (not (is_count nb) gives Size) ∷ []) a in
      record { enough = ltb-false (length b) 1024 c.0; rate = not-false (is_rate khz) c.1.0; count = not-false (is_count nb) c.1.1.0 }

  begins : 1024 ≤ length b → is_rate khz ≡ true → is_count nb ≡ true → begin_refusal khz nb b ≡ Ok tt
  unfolding begin_refusal
  begins h e f =
      passed ((ltb (length b) 1024 gives Record) ∷ (not (is_rate khz) gives Rate) ∷ (not (is_count nb) gives Size) ∷ []) (le-ltb (length b) 1024 h, (rw e, (rw f, tt)))

  no_frames : 1024 ≤ length b → with_bytes b 0 (head_bytes 0 khz nb) ≡ recording_bytes khz nb [] ++ drop 1024 b
  unfolding recording_to frames_to link_to
  no_frames h = with-start b (head_bytes 0 khz nb) 1024 (length_head 0 khz nb) ∙ ap (λ (h : List ℕ). h ++ drop 1024 b) (sym (append-nil (head_bytes 0 khz nb)))

  module _ (xs : List Recorded) where
    writes : code_of (begin_refusal khz nb b) ≡ 0 → write_of khz nb b xs ≡ appends_of khz nb (recording_bytes khz nb [] ++ drop 1024 b) 0 xs
    unfolding write_of begin_of
    writes a = rw (accepted (begin_refusal khz nb b) a) (ap (λ (c : List ℕ). appends_of khz nb c 0 xs) (no_frames (begun-with a).enough))

    began : code_of (write_of khz nb b xs).judged ≡ 0 → code_of (begin_refusal khz nb b) ≡ 0
    unfolding write_of begin_of
    began = go (begin_refusal khz nb b)
      where
        go : (j : Judged)
            → code_of (if_accepted j (appends_of khz nb (if_accepted j (with_bytes b 0 (head_bytes 0 khz nb)) b) 0 xs) (record { judged = j; bytes = if_accepted j (with_bytes b 0 (head_bytes 0 khz nb)) b })).judged ≡ 0
            → code_of j ≡ 0
        go (Ok u) e = refl
        go (Err r) e = e

    -- what is written, and of which frames
    pub record Written : Type 0 where
      pub rate : is_rate khz ≡ true
      pub count : is_count nb ≡ true
      pub few : length xs ≤ 59
      pub rows : code_of (described_all (shape khz nb) xs) ≡ 0
      pub bytes : (write_of khz nb b xs).bytes ≡ recording_bytes khz nb xs ++ drop (size xs) b

    pub written : code_of (write_of khz nb b xs).judged ≡ 0 → Written
    written a =
        let r = began a in
        let g = begun-with r in
        let w = writes r in
        let t = all_taken khz nb g.rate g.count [] xs (drop 1024 b) (omega arith) (sym (ap (λ (k : Left). code_of k.judged) w) ∙ a) in
        let m : 1024 + 1024 * length xs ≡ 1024 * suc (length xs) = omega arith in
        record {
          rate = g.rate;
          count = g.count;
          few = omega (arith, t.few);
          rows = t.rows;
          bytes =
              ap (λ (k : Left). k.bytes) w ∙ t.bytes ∙ ap (λ (c : List ℕ). recording_bytes khz nb xs ++ c) (drop-drop (1024 * length xs) 1024 b ∙ ap (λ (k : ℕ). drop k b) m);
        }

pub in_order : InOrder
in_order khz nb lent xs a = (written khz nb lent xs a).bytes

pub writer_takes : WriterTakes
writer_takes khz nb lent xs e f l m h r =
    let b = begins khz nb lent (omega (arith, m)) e f in
    ap (λ (k : Left). code_of k.judged) (writes khz nb lent xs (ap code_of b))
    ∙ takes_all khz nb e f [] xs (drop 1024 lent) (omega (arith, l)) (omega (arith, m, length-drop 1024 lent)) h r
