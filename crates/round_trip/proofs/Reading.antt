-- A recording as it is written is read: its chain, its records and its frames.
use Prim.Native.Nat.{ℕ, suc, ◌+◌, ◌-◌, ◌*◌, ◌/◌, ◌%◌, ◌≤◌, ◌<◌}
use mathlib.Core.Path.{◌≡◌, refl, sym, ap, ◌∙◌}
use mathlib.Core.Bool.{true, false, not, ◌&&◌}
use mathlib.Core.List.{List, [], ◌∷◌, ◌++◌, append_assoc, append-nil, map}
use native.Mathlib.Omega.{arith}
use native.Mathlib.Nat.{mod-eq_of_lt}
use borrow.Author.Tests.{ne_eqb, lt-ltb, le-leb}
use lib.IntN.{ℤ, pos}
use lib.ListN.{length, get_or, take, drop, replicate, replicate-append-replicate}
use lib.Seq.{drop-drop, drop_at, take_at, get_or-drop, append_snoc}
use Rattle.le.specs.Bytes.{bytes_of, number_of, unsigned_at, joined}
use Rattle.le.proofs.Numbers.{number_of-bytes}
use Rattle.refusal.specs.First.{◌gives◌, earlier}
use Rattle.refusal.specs.Refusals.{code_of}
use Rattle.refusal.specs.declared.Refusal.TheVariants.{Rate, Size, Record, Chain}
use Rattle.shape.specs.Shape.{Shape, shape, is_rate, is_count}
use Rattle.decoder.specs.Signals.{signal_number, is_type, is_voiced}
use Rattle.judge.specs.Rows.{signal_row, lag_row, taps_row}
use Rattle.record.specs.Recorded.{Recorded, lost, received, recorded_in, record_bytes}
use Rattle.record.specs.Claims.{TypedRecorded, by_number}
use Rattle.record.proofs.Parts.{length_record}
use Rattle.record.proofs.Ways.{number_of_lem}
use Rattle.record.proofs.Ways as ways
use Rattle.std.specs.Prelude.{Some}
use Rattle.chain.specs.Chain.{is_whole, records_in, next_of, is_among, chain_from, chain_of, is_broken, on_chain}
use Rattle.chain.proofs.Chains.{among_snoc}
use Rattle.chain.proofs.Steps.{step_end, step-on}
use Rattle.recording.specs.Frames.{is_head, rate_in, count_in, is_frame, are_frames, recorded_at, frames_in, described, described_all}
use Rattle.recording.specs.Reading.{read_refusal}
use Rattle.recording.proofs.Rows.{passed_then}
use Rattle.recorder.specs.Writing.{head_bytes, frame_bytes, link_to, frames_to, recording_to, recording_bytes}
use Rattle.round_trip.specs.Claims.{up_from, size, All, write_of, WrittenIsRead}
use Rattle.round_trip.proofs.Records.{frame_rest, head_rest, frame-parts, length-frame, length_head, length_recording, recording_parts}
use Rattle.round_trip.proofs.Writes.{zeros-at, head_is, rate_is, count_is, written}

-- the number that a record begins with
next-is : (b : List ℕ) (i k : ℕ) (q : List ℕ) → k < 65536 → drop (1024 * i) b ≡ bytes_of 2 (pos k) ++ q → next_of b i ≡ k
unfolding next_of unsigned_at
next-is b i k q h e =
    ap (λ (c : List ℕ). number_of (take 2 c)) e ∙ number_of-bytes 2 (pos k) ∙ mod-eq_of_lt h

-- record i of bytes, and what is behind it
module _ (b : List ℕ) (i k : ℕ) (x : Recorded) (q : List ℕ) (e : drop (1024 * i) b ≡ frame_bytes k x ++ q) where
  pub behind : drop (1024 * suc i) b ≡ q
  behind =
      let n : 1024 * suc i ≡ 1024 * i + 1024 = omega arith in
      ap (λ (m : ℕ). drop m b) n ∙ sym (drop-drop 1024 (1024 * i) b) ∙ ap (drop 1024) e ∙ drop_at (frame_bytes k x) q 1024 (length-frame k x)

  first : drop (1024 * i) b ≡ bytes_of 2 (pos k) ++ (frame_rest x ++ q)
  first = e ∙ ap (λ (f : List ℕ). f ++ q) (frame-parts k x)

  body : drop (1024 * i + 2) b ≡ record_bytes x ++ (replicate 205 0 ++ q)
  body =
      sym (drop-drop 2 (1024 * i) b) ∙ ap (drop 2) first ∙ append_assoc (record_bytes x) (replicate 205 0) q

  recorded-is : TypedRecorded x → recorded_at b i ≡ by_number x
  unfolding recorded_at
  recorded-is t = ap recorded_in body ∙ ways.written_is_read x (replicate 205 0 ++ q) t

  kind : get_or b (1024 * i + 2) 0 ≡ get_or (record_bytes x ++ (replicate 205 0 ++ q)) 0 0
  kind =
      let z : 1024 * i + 2 ≡ 1024 * i + 2 + 0 = omega arith in
      ap (λ (n : ℕ). get_or b n 0) z ∙ sym (get_or-drop (1024 * i + 2) b 0 0) ∙ ap (λ (c : List ℕ). get_or c 0 0) body

frame_is : (b : List ℕ) (i k : ℕ) (x : Recorded) (q : List ℕ) → drop (1024 * i) b ≡ frame_bytes k x ++ q → is_frame b i ≡ true
unfolding is_frame record_bytes joined
frame_is b i k lost q e =
    let z : List ℕ = replicate 817 0 in
    rw (kind b i k lost q e)
    (zeros-at b (1024 * i + 2) 1022 q (body b i k lost q e ∙ sym (append_assoc z (replicate 205 0) q) ∙ ap (λ (c : List ℕ). c ++ q) (replicate-append-replicate 817 205 0)))
frame_is b i k (received p c rows lines pulses) q e =
    let x = received p c rows lines pulses in
    rw (kind b i k x q e)
    (zeros-at b (1024 * i + 2 + 817) 205 q (sym (drop-drop 817 (1024 * i + 2) b) ∙ ap (drop 817) (body b i k x q e) ∙ drop_at (record_bytes x) (replicate 205 0 ++ q) 817 (length_record x)))

small_link : (m : ℕ) (ys : List Recorded) → m < 65536 → link_to 0 m ys < 65536
unfolding link_to
small_link m [] h = omega arith
small_link m (y ∷ ys) h = h

-- the numbers behind a number
among_above : (j k : ℕ) (met : List ℕ) → is_among j met ≡ false → k < j → is_among j (met ++ k ∷ []) ≡ false
among_above j k met e h = among_snoc j k met ∙ rw (e, ne_eqb j k (λ f. omega (arith, f)))

chain_from_lem : (b : List ℕ) (i : ℕ) (xs : List Recorded) (met : List ℕ) → drop (1024 * suc i) b ≡ frames_to 0 (suc i) xs → next_of b i ≡ link_to 0 (suc i) xs → suc i + length xs ≡ records_in b
    → records_in b ≤ 60
    → ((j : ℕ) → i < j → is_among j met ≡ false)
    → chain_from b (length xs) met i ≡ Some (met ++ up_from (suc i) (length xs))
unfolding frames_to link_to up_from
chain_from_lem b i [] met e n r s f = step_end b met i 0 n ∙ ap Some (sym (append-nil met))
chain_from_lem b i (x ∷ xs) met e n r s f =
    let k = link_to 0 (suc (suc i)) xs in
    let l : next_of b i < records_in b = omega (arith, n, r) in
    let on = step-on b met i (length xs) (λ z. omega (arith, n, z)) l (ap (λ (j : ℕ). is_among j met) n ∙ f (suc i) (omega arith)) in
    on ∙ ap (λ (j : ℕ). chain_from b (length xs) (met ++ j ∷ []) j) n
    ∙ chain_from_lem b (suc i) xs (met ++ suc i ∷ []) (behind b (suc i) k x (frames_to 0 (suc (suc i)) xs) e)
    (next-is b (suc i) k (frame_rest x ++ frames_to 0 (suc (suc i)) xs) (small_link (suc (suc i)) xs (omega arith)) (first b (suc i) k x (frames_to 0 (suc (suc i)) xs) e))
    (omega (arith, r)) s (λ j h. among_above j (suc i) met (f j (omega arith)) h)
    ∙ ap Some (append_snoc met (suc i) (up_from (suc (suc i)) (length xs)))

-- the frames' records
frames_are : (b : List ℕ) (i : ℕ) (xs : List Recorded) → drop (1024 * i) b ≡ frames_to 0 i xs → are_frames b (up_from i (length xs)) ≡ true
unfolding frames_to up_from are_frames
frames_are b i [] e = refl
frames_are b i (x ∷ xs) e =
    let k = link_to 0 (suc i) xs in
    let q = frames_to 0 (suc i) xs in
    rw (frame_is b i k x q e, frames_are b (suc i) xs (behind b i k x q e))

-- and their frames
recorded_are : (b : List ℕ) (i : ℕ) (xs : List Recorded) → drop (1024 * i) b ≡ frames_to 0 i xs → All TypedRecorded xs → map (recorded_at b) (up_from i (length xs)) ≡ map by_number xs
unfolding frames_to up_from
recorded_are b i [] e t = refl
recorded_are b i (x ∷ xs) e t =
    let k = link_to 0 (suc i) xs in
    let q = frames_to 0 (suc i) xs in
    λ j. recorded-is b i k x q e t.0 j ∷ recorded_are b (suc i) xs (behind b i k x q e) t.1 j

-- rows 5 to 9 go by a type's number
described-by_number : (p : Shape) (x : Recorded) → described p (by_number x) ≡ described p x
unfolding described by_number signal_row lag_row taps_row is_type is_voiced
described-by_number p lost = refl
described-by_number p (received q c rows lines pulses) = rw (number_of_lem (signal_number q.signal))

all_by_number : (p : Shape) (xs : List Recorded) → described_all p (map by_number xs) ≡ described_all p xs
unfolding described_all
all_by_number p [] = refl
all_by_number p (x ∷ xs) = λ i. earlier (described-by_number p x i) (all_by_number p xs i)

module _ (khz nb : ℤ) (xs : List Recorded) (e : is_rate khz ≡ true) (f : is_count nb ≡ true) (l : length xs ≤ 59) where
  abbrev bytes : List ℕ
  bytes = recording_bytes khz nb xs

  long : length bytes ≡ 1024 * suc (length xs)
  long = length_recording 0 khz nb xs

  is-whole : is_whole (length bytes) ≡ true
  unfolding is_whole
  is-whole =
      let n : ℕ = length xs in
      let m : 1024 * suc n % 1024 ≡ 0 = omega arith in
      let d : 1024 * suc n / 1024 ≡ suc n = omega arith in
      rw (long, m, d, lt-ltb 0 (suc n) (omega arith), le-leb (suc n) 60 (omega arith))

  records : records_in bytes ≡ suc (length xs)
  unfolding records_in
  records =
      let d : 1024 * suc (length xs) / 1024 ≡ suc (length xs) = omega arith in
      ap (λ (n : ℕ). n / 1024) long ∙ d

  behind-head : drop (1024 * 1) bytes ≡ frames_to 0 1 xs
  unfolding recording_to
  behind-head = drop_at (head_bytes (link_to 0 1 xs) khz nb) (frames_to 0 1 xs) 1024 (length_head (link_to 0 1 xs) khz nb)

  link : next_of bytes 0 ≡ link_to 0 1 xs
  link =
      next-is bytes 0 (link_to 0 1 xs) (head_rest khz nb ++ frames_to 0 1 xs ++ []) (small_link 1 xs (omega arith))
      (sym (append-nil bytes) ∙ recording_parts khz nb xs 0 [])

  chain-is : chain_of bytes ≡ Some (up_from 1 (length xs))
  unfolding chain_of is_among
  chain-is =
      let m : records_in bytes - 1 ≡ length xs = omega (arith, records) in
      ap (λ (n : ℕ). chain_from bytes n [] 0) m
      ∙ chain_from_lem bytes 0 xs [] behind-head link (omega (arith, records)) (omega (arith, records, l)) (λ j h. refl)

  on : on_chain (chain_of bytes) ≡ up_from 1 (length xs)
  unfolding on_chain
  on = ap on_chain chain-is

  head : is_head bytes ≡ true
  head = ap is_head (sym (append-nil bytes)) ∙ head_is khz nb e f xs []

  rate : rate_in bytes ≡ khz
  rate = ap rate_in (sym (append-nil bytes)) ∙ rate_is khz nb e f xs []

  count : count_in bytes ≡ nb
  count = ap count_in (sym (append-nil bytes)) ∙ count_is khz nb e f xs []

  frames : All TypedRecorded xs → frames_in bytes ≡ map by_number xs
  unfolding frames_in
  frames t = ap (map (recorded_at bytes)) on ∙ recorded_are bytes 1 xs behind-head t

  reads : All TypedRecorded xs → read_refusal bytes ≡ described_all (shape khz nb) xs
  unfolding read_refusal is_broken
  reads t =
      let w : not (is_whole (length bytes)) ≡ false = rw is-whole in
      let c : is_broken (chain_of bytes) ≡ false = ap is_broken chain-is in
      let h : not (is_head bytes && are_frames bytes (on_chain (chain_of bytes))) ≡ false = rw (head, on, frames_are bytes 1 xs behind-head) in
      let r : not (is_rate (rate_in bytes)) ≡ false = rw (rate, e) in
      let n : not (is_count (count_in bytes)) ≡ false = rw (count, f) in
      passed_then ((not (is_whole (length bytes)) gives Record) ∷ (is_broken (chain_of bytes) gives Chain) ∷ (not (is_head bytes && are_frames bytes (on_chain (chain_of bytes))) gives Record) ∷ (not (is_rate (rate_in bytes)) gives Rate) ∷ (not (is_count (count_in bytes)) gives Size) ∷ [])
      (described_all (shape (rate_in bytes) (count_in bytes)) (frames_in bytes))
      (w, (c, (h, (r, (n, tt)))))
      ∙ (λ i. described_all (shape (rate i) (count i)) (frames t i))
      ∙ all_by_number (shape khz nb) xs

pub written_is_read : WrittenIsRead
written_is_read khz nb lent xs t a =
    let w = written khz nb lent xs a in
    let b = recording_bytes khz nb xs in
    let k : take (size xs) (write_of khz nb lent xs).bytes ≡ b =
    ap (take (size xs)) w.bytes ∙ take_at b (drop (size xs) lent) (size xs) (length_recording 0 khz nb xs) in (
      ap (λ (c : List ℕ). code_of (read_refusal c)) k ∙ ap code_of (reads khz nb xs w.rate w.count w.few t) ∙ w.rows,
      ap rate_in k ∙ rate khz nb xs w.rate w.count w.few,
      ap count_in k ∙ count khz nb xs w.rate w.count w.few,
      ap frames_in k ∙ frames khz nb xs w.rate w.count w.few t,
    )
