-- The writer's answers, and the bytes that it stores.
use Prim.Native.Nat.{ℕ, zero, suc, ◌+◌, ◌*◌, ◌≤◌}
use mathlib.Core.Path.{◌≡◌, refl, sym, ap, ◌∙◌}
use mathlib.Core.Bool.{Bool, true, false, not, ◌&&◌, false≢true}
use mathlib.Core.List.{List, [], ◌∷◌, ◌++◌}
use native.Mathlib.Omega.{arith}
use borrow.Author.Tests.{leb-true, not-false}
use lib.Dec.{leb}
use lib.IntN.{ℤ, pos}
use lib.ListN.{length, get_or, take, replicate, length-append}
use lib.Seq.{get_or-take}
use mir.Syntax.{Width, w16, w32}
use Rattle.le.specs.Bytes.{bytes_of, bytes_in, packed, joined, with_bytes}
use Rattle.le.proofs.Places.{with-more}
use Rattle.std.specs.Prelude.{Ok, Err, codes}
use Rattle.std.specs.Result.{IsErrAnd}
use Rattle.std.proofs.lemmas.Bool.{and_parts}
use Rattle.refusal.specs.First.{◌gives◌, first_of}
use Rattle.refusal.specs.Refusals.{Judged, code_of}
use Rattle.refusal.specs.declared.Refusal.{Refusal}
use Rattle.refusal.specs.declared.Refusal.TheVariants.{Record}
use Rattle.refusal.proofs.Clear.{clear, at_err}
use Rattle.shape.specs.Shape.{shape}
use Rattle.word.specs.Int.{mod_ℤ}
use Rattle.decoder.specs.declared.Params.{Params}
use Rattle.decoder.specs.declared.SilkDecoderControl.{SilkDecoderControl}
use Rattle.record.specs.Recorded.{Recorded, lost, received, small_bytes, record_bytes}
use Rattle.record.proofs.Parts.{length_record}
use Rattle.recording.specs.Frames.{described}
use Rattle.recording.proofs.Rows.{then_err, then_ok, run_err, run_ok}
use Rattle.recording.specs.Rows.{first_then}
use Rattle.recorder.specs.Writing.{left, head_bytes, frame_bytes, has_room, has_pulses, head_rows, append_refusal}

module _ (new old : List ℕ) where
  pub left-refused : {t j : Judged} {e : Refusal} → j ≡ Err e → IsErrAnd t (λ y. y ≡ e) → record { judged = t; bytes = old } ≡ left j new old
  left-refused {t} {j} {e} h k = (λ i. record { judged = at_err t e k i; bytes = old }) ∙ ap (λ (x : Judged). left x new old) (sym h)

  pub left-accepted : {j : Judged} → j ≡ Ok tt → record { judged = Ok tt; bytes = new } ≡ left j new old
  left-accepted {j} h = ap (λ (x : Judged). left x new old) (sym h)

-- a lost frame brings no pulses
pub no_more : (a : Bool) → a ≡ (a && has_pulses lost)
unfolding has_pulses
no_more true = refl
no_more false = refl

-- a received frame brings 320 of them
pub are_more : {a b : Bool} (q : Params) (c : SilkDecoderControl) (rows : List (List ℤ)) (lines pulses : List ℤ) → a ≡ b → (a && leb 320 (length pulses)) ≡ (b && has_pulses (received q c rows lines pulses))
unfolding has_pulses
are_more q c rows lines pulses e = ap (λ (x : Bool). x && leb 320 (length pulses)) e

pub enough-pulses : (q : Params) (c : SilkDecoderControl) (rows : List (List ℤ)) (lines pulses : List ℤ) → has_pulses (received q c rows lines pulses) ≡ true → 320 ≤ length pulses
unfolding has_pulses
enough-pulses q c rows lines pulses e = leb-true 320 (length pulses) e

-- the room for n frames and one more
pub record Room (lent n : ℕ) : Type 0 where
  pub few : n + 2 ≤ 60
  pub enough : 1024 * (n + 2) ≤ lent

pub room : (lent n : ℕ) → has_room lent n ≡ true → Room lent n
unfolding has_room
room lent n e = go (leb (n + 2) 60) refl (leb (1024 * (n + 2)) lent) refl e
  where
    go : (a : Bool) → leb (n + 2) 60 ≡ a → (b : Bool) → leb (1024 * (n + 2)) lent ≡ b → (a && b) ≡ true → Room lent n
    go true p true q e = record { few = leb-true (n + 2) 60 p; enough = leb-true (1024 * (n + 2)) lent q }
    go true p false q e = absurd (false≢true e)
    go false p b q e = absurd (false≢true e)

module _ (khz nb : ℤ) (b : List ℕ) (n : ℕ) (x : Recorded) where
  -- the row of the room and the pulses, as a call judges it
  module _ {q : Judged} {w : Bool} (j : q ≡ first_of ((not w gives Record) ∷ [])) (l : w ≡ (has_room (length b) n && has_pulses x)) where
    room-row : q ≡ first_of ((not (has_room (length b) n && has_pulses x) gives Record) ∷ [])
    room-row = j ∙ ap (λ (z : Bool). first_of ((not z gives Record) ∷ [])) l

    pub room_stops : {e : Refusal} → q ≡ Err e → append_refusal khz nb b n x ≡ Err e
    unfolding append_refusal
    room_stops h = then_err (not (has_room (length b) n && has_pulses x) gives Record) _ _ (sym room-row ∙ h)

    passes : q ≡ Ok tt → (has_room (length b) n && has_pulses x) ≡ true
    passes h =
        not-false (has_room (length b) n && has_pulses x) (clear ((not (has_room (length b) n && has_pulses x) gives Record) ∷ []) (ap code_of (sym room-row ∙ h))).0

    -- then there is room, and record 0's rows come
    module _ (h : q ≡ Ok tt) where
      pub has : has_room (length b) n ≡ true
      has = (and_parts (has_room (length b) n) (has_pulses x) (passes h)).0

      pub roomy : Room (length b) n
      roomy = room (length b) n has

      pub pulses-are : has_pulses x ≡ true
      pulses-are = (and_parts (has_room (length b) n) (has_pulses x) (passes h)).1

      head : append_refusal khz nb b n x ≡ first_then (head_rows khz nb b) (described (shape khz nb) x)
      unfolding append_refusal
      head = then_ok (not (has_room (length b) n && has_pulses x) gives Record) _ _ (sym room-row ∙ h)

      module _ {p : Judged} (r : p ≡ first_of (head_rows khz nb b)) where
        pub head_stops : {e : Refusal} → p ≡ Err e → append_refusal khz nb b n x ≡ Err e
        head_stops k = head ∙ run_err (head_rows khz nb b) (described (shape khz nb) x) (sym r ∙ k)

        pub by_head : p ≡ Ok tt → append_refusal khz nb b n x ≡ described (shape khz nb) x
        by_head k = head ∙ run_ok (head_rows khz nb b) (described (shape khz nb) x) (sym r ∙ k)

-- the first n of more numbers
packed-take : (w : Width) (m : ℕ) (xs : List ℤ) (n : ℕ) → n ≤ m → packed w (take m xs) n ≡ packed w xs n
unfolding packed
packed-take w m xs zero h = refl
packed-take w m xs (suc n) h =
    let ih = packed-take w m xs n (omega arith) in
    let e = get_or-take m xs n (pos 0) (omega arith) in
    λ i. ih i ++ bytes_of (bytes_in w) (e i)

module _ (q : Params) (c : SilkDecoderControl) (rows : List (List ℤ)) (lines pulses : List ℤ) where
  -- of more pulses the first 320 are written
  pub first_pulses : record_bytes (received q c rows lines (take 320 pulses)) ≡ record_bytes (received q c rows lines pulses)
  unfolding record_bytes
  first_pulses =
      let e = packed-take w16 320 pulses 320 (omega arith) in
      λ i. joined (small_bytes q ∷ packed w32 c.pitch_l 4 ∷ packed w32 c.gains_q16 4 ∷ packed w16 (get_or rows 0 []) 16 ∷ packed w16 (get_or rows 1 []) 16 ∷ packed w16 c.ltp_coef_q14 20 ∷ bytes_of 4 c.ltp_scale_q14 ∷ packed w16 lines 16 ∷ e i ∷ [])

-- a record stored in three parts
pub put_record : (d : List ℕ) (at : ℕ) (x : Recorded) → at ≤ length d
    → with_bytes (with_bytes (with_bytes d at (replicate 2 0)) (at + 2) (record_bytes x)) (at + 819) (replicate 205 0) ≡ with_bytes d at (frame_bytes 0 x)
unfolding frame_bytes
put_record d at x h =
    let z : List ℕ = replicate 2 0 in
    let l : length (z ++ record_bytes x) ≡ 819 = length-append z (record_bytes x) ∙ ap (λ (n : ℕ). 2 + n) (length_record x) in
    ap (λ (e : List ℕ). with_bytes e (at + 819) (replicate 205 0)) (with-more d at z (record_bytes x) 2 h refl)
    ∙ with-more d at (z ++ record_bytes x) (replicate 205 0) 819 h l

-- record 0 stored in four parts
pub put_head : (d : List ℕ) (khz nb : ℤ) → 1024 ≤ length d
    → with_bytes (with_bytes (with_bytes (with_bytes d 0 (replicate 2 0)) 2 (codes "YARD")) 6 (mod_ℤ khz 256 ∷ mod_ℤ nb 256 ∷ [])) 8 (replicate 1016 0)
    ≡ with_bytes d 0 (head_bytes 0 khz nb)
unfolding head_bytes
put_head d khz nb h =
    let z : List ℕ = replicate 2 0 in
    let m : List ℕ = codes "YARD" in
    let s : List ℕ = mod_ℤ khz 256 ∷ mod_ℤ nb 256 ∷ [] in
    ap (λ (e : List ℕ). with_bytes (with_bytes e 6 s) 8 (replicate 1016 0)) (with-more d 0 z m 2 (omega arith) refl)
    ∙ ap (λ (e : List ℕ). with_bytes e 8 (replicate 1016 0)) (with-more d 0 (z ++ m) s 6 (omega arith) refl)
    ∙ with-more d 0 (z ++ m ++ s) (replicate 1016 0) 8 (omega arith) refl

-- a lost frame's record, the last, is zeros
pub lost_record : replicate 1024 0 ≡ frame_bytes 0 lost
unfolding frame_bytes record_bytes
lost_record = refl
