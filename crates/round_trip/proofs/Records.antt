-- The records of a recording as it is written.
use Prim.Native.Nat.{ℕ, suc, ◌+◌, ◌*◌, ◌≤◌}
use mathlib.Core.Path.{◌≡◌, refl, sym, ap, ◌∙◌}
use mathlib.Core.List.{List, [], ◌∷◌, ◌++◌, append_assoc, append-nil}
use native.Mathlib.Omega.{arith}
use lib.IntN.{ℤ, pos}
use lib.ListN.{length, drop, replicate, length-append, length-replicate}
use Rattle.le.specs.Bytes.{bytes_of, with_bytes}
use Rattle.le.proofs.Places.{with-front}
use Rattle.std.specs.Prelude.{codes}
use Rattle.record.specs.Recorded.{Recorded, record_bytes}
use Rattle.record.proofs.Parts.{length_record}
use Rattle.recorder.specs.Writing.{head_bytes, frame_bytes, link_to, frames_to, recording_to, recording_bytes, appended}

-- a record but for its next number
abbrev pub frame_rest : Recorded → List ℕ
frame_rest x = record_bytes x ++ replicate 205 0

abbrev pub head_rest : ℤ → ℤ → List ℕ
head_rest khz nb = codes "YARD" ++ bytes_of 1 khz ++ bytes_of 1 nb ++ replicate 1016 0

pub frame-parts : (k : ℕ) (x : Recorded) → frame_bytes k x ≡ bytes_of 2 (pos k) ++ frame_rest x
unfolding frame_bytes
frame-parts k x = refl

pub head_parts : (k : ℕ) (khz nb : ℤ) → head_bytes k khz nb ≡ bytes_of 2 (pos k) ++ head_rest khz nb
unfolding head_bytes
head_parts k khz nb = refl

pub length-frame_rest : (x : Recorded) → length (frame_rest x) ≡ 1022
length-frame_rest x = length-append (record_bytes x) (replicate 205 0) ∙ (λ i. length_record x i + length-replicate {A = ℕ} 205 0 i)

pub length-frame : (k : ℕ) (x : Recorded) → length (frame_bytes k x) ≡ 1024
length-frame k x = ap length (frame-parts k x) ∙ ap (λ (n : ℕ). suc (suc n)) (length-frame_rest x)

pub length_head : (k : ℕ) (khz nb : ℤ) → length (head_bytes k khz nb) ≡ 1024
unfolding head_bytes
length_head k khz nb = refl

pub length-frames : (end i : ℕ) (xs : List Recorded) → length (frames_to end i xs) ≡ 1024 * length xs
unfolding frames_to
length-frames end i [] = refl
length-frames end i (x ∷ xs) =
    let e : 1024 + 1024 * length xs ≡ 1024 * suc (length xs) = omega arith in
    length-append (frame_bytes (link_to end (suc i) xs) x) (frames_to end (suc i) xs)
    ∙ (λ j. length-frame (link_to end (suc i) xs) x j + length-frames end (suc i) xs j) ∙ e

pub length_recording : (end : ℕ) (khz nb : ℤ) (xs : List Recorded) → length (recording_to end khz nb xs) ≡ 1024 * suc (length xs)
unfolding recording_to
length_recording end khz nb xs =
    let e : 1024 + 1024 * length xs ≡ 1024 * suc (length xs) = omega arith in
    length-append (head_bytes (link_to end 1 xs) khz nb) (frames_to end 1 xs)
    ∙ (λ j. length_head (link_to end 1 xs) khz nb j + length-frames end 1 xs j) ∙ e

-- the last record of a record r and the frames behind it leads to `end` in place of 0
relink : (end i : ℕ) (r : List ℕ) (xs : List Recorded) (d : List ℕ) → length r ≡ 1022
    → with_bytes (bytes_of 2 (pos (link_to 0 i xs)) ++ r ++ frames_to 0 i xs ++ d) (1024 * length xs) (bytes_of 2 (pos end))
    ≡ bytes_of 2 (pos (link_to end i xs)) ++ r ++ frames_to end i xs ++ d
unfolding link_to frames_to with_bytes
relink end i r [] d l = refl
relink end i r (x ∷ xs) d l =
    let p : List ℕ = bytes_of 2 (pos i) ++ r in
    let n : 1024 * suc (length xs) ≡ 1024 + 1024 * length xs = omega arith in
    ap (λ (m : ℕ). with_bytes (p ++ (frame_bytes (link_to 0 (suc i) xs) x ++ frames_to 0 (suc i) xs) ++ d) m (bytes_of 2 (pos end))) n
    ∙ ap (λ (q : List ℕ). with_bytes q (1024 + 1024 * length xs) (bytes_of 2 (pos end))) (shape 0)
    ∙ with-front p (bytes_of 2 (pos (link_to 0 (suc i) xs)) ++ frame_rest x ++ frames_to 0 (suc i) xs ++ d) (1024 * length xs) (bytes_of 2 (pos end)) 1024 (ap (λ (m : ℕ). suc (suc m)) l)
    ∙ ap (λ (q : List ℕ). p ++ q) (relink end (suc i) (frame_rest x) xs d (length-frame_rest x))
    ∙ sym (shape end)
  where
    shape : (e : ℕ) → bytes_of 2 (pos i) ++ r ++ (frame_bytes (link_to e (suc i) xs) x ++ frames_to e (suc i) xs) ++ d
        ≡ bytes_of 2 (pos i) ++ r ++ (bytes_of 2 (pos (link_to e (suc i) xs)) ++ frame_rest x ++ frames_to e (suc i) xs ++ d)
    shape e =
        let p : List ℕ = bytes_of 2 (pos i) ++ r in
        let h : List ℕ = frame_bytes (link_to e (suc i) xs) x in
        let g : List ℕ = frames_to e (suc i) xs in
        append_assoc p (h ++ g) d ∙ ap (λ (q : List ℕ). p ++ (q ++ g ++ d)) (frame-parts (link_to e (suc i) xs) x)

-- bytes stored at the front
pub with-start : (d s : List ℕ) (n : ℕ) → length s ≡ n → with_bytes d 0 s ≡ s ++ drop n d
unfolding with_bytes
with-start d s n l =
    let e : 0 + length s ≡ n = omega arith in
    ap (λ (m : ℕ). s ++ drop m d) e

-- the number that leads to one record more
pub more_link : (i : ℕ) (xs : List Recorded) (x : Recorded) → link_to (i + length xs) i xs ≡ link_to 0 i (xs ++ x ∷ [])
unfolding link_to
more_link i [] x = omega arith
more_link i (y ∷ ys) x = refl

-- frames that lead to it, and that record
more-frames : (i : ℕ) (xs : List Recorded) (x : Recorded) → frames_to (i + length xs) i xs ++ frame_bytes 0 x ≡ frames_to 0 i (xs ++ x ∷ [])
unfolding frames_to link_to
more-frames i [] x = sym (append-nil (frame_bytes 0 x))
more-frames i (y ∷ ys) x =
    let e : i + suc (length ys) ≡ suc i + length ys = omega arith in
    ap (λ (n : ℕ). frames_to n i (y ∷ ys) ++ frame_bytes 0 x) e
    ∙ append_assoc (frame_bytes (link_to (suc i + length ys) (suc i) ys) y) (frames_to (suc i + length ys) (suc i) ys) (frame_bytes 0 x)
    ∙ (λ j. frame_bytes (more_link (suc i) ys x j) y ++ more-frames (suc i) ys x j)

module _ (khz nb : ℤ) (xs : List Recorded) where
  -- the bytes by record 0's parts
  pub recording_parts : (end : ℕ) (d : List ℕ) → recording_to end khz nb xs ++ d ≡ bytes_of 2 (pos (link_to end 1 xs)) ++ head_rest khz nb ++ frames_to end 1 xs ++ d
  unfolding recording_to
  recording_parts end d = ap (λ (h : List ℕ). h ++ frames_to end 1 xs ++ d) (head_parts (link_to end 1 xs) khz nb)

  recording-more : (x : Recorded) → recording_to (suc (length xs)) khz nb xs ++ frame_bytes 0 x ≡ recording_bytes khz nb (xs ++ x ∷ [])
  unfolding recording_to
  recording-more x =
      let e : suc (length xs) ≡ 1 + length xs = omega arith in
      ap (λ (n : ℕ). head_bytes (link_to n 1 xs) khz nb ++ frames_to n 1 xs ++ frame_bytes 0 x) e
      ∙ append_assoc (head_bytes (link_to (1 + length xs) 1 xs) khz nb) (frames_to (1 + length xs) 1 xs) (frame_bytes 0 x)
      ∙ (λ j. head_bytes (more_link 1 xs x j) khz nb ++ more-frames 1 xs x j)

  -- one frame more
  pub appended-more : (d : List ℕ) (x : Recorded) → 1024 ≤ length d
      → appended (recording_bytes khz nb xs ++ d) (length xs) x ≡ recording_bytes khz nb (xs ++ x ∷ []) ++ drop 1024 d
  unfolding appended
  appended-more d x h =
      let n = length xs in
      let t : List ℕ = recording_to (suc n) khz nb xs in
      let e : 1024 * suc n ≡ 1024 * suc n + 0 = omega arith in
      ap (λ (q : List ℕ). with_bytes q (1024 * suc n) (frame_bytes 0 x))
      (ap (λ (q : List ℕ). with_bytes q (1024 * n) (bytes_of 2 (pos (suc n)))) (recording_parts 0 d)
      ∙ relink (suc n) 1 (head_rest khz nb) xs d refl
      ∙ sym (recording_parts (suc n) d))
      ∙ ap (λ (m : ℕ). with_bytes (t ++ d) m (frame_bytes 0 x)) e
      ∙ with-front t d 0 (frame_bytes 0 x) (1024 * suc n) (length_recording (suc n) khz nb xs)
      ∙ ap (λ (q : List ℕ). t ++ q) (with-start d (frame_bytes 0 x) 1024 (length-frame 0 x))
      ∙ sym (append_assoc t (frame_bytes 0 x) (drop 1024 d))
      ∙ ap (λ (q : List ℕ). q ++ drop 1024 d) (recording-more x)
