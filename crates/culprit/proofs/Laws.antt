-- Frames played from a state on, one at a time; a prefix that passes nothing need not be played again.
use Prim.Native.Nat.{ℕ, zero, suc, ◌+◌, ◌-◌, ◌<◌}
use mathlib.Core.Path.{◌≡◌, refl, sym, ap, ◌∙◌}
use mathlib.Core.Bool.{Bool, true, false, cond, ◌&&◌, ◌||◌}
use mathlib.Core.List.{List, [], ◌∷◌, map}
use native.Mathlib.Omega.{arith}
use Rattle.std.specs.Prelude.{Some, None}
use Rattle.std.proofs.lemmas.Bool.{or_parts}
use Rattle.std.proofs.lemmas.List.{drop-map, get_or-map}
use lib.IntN.{ℤ}
use lib.ListN.{length, length-map, get_or, take, drop, drop_of_length-le}
use lib.Seq.{drop-cons, get_or-drop}
use mir.Syntax.{w32}
use mir.Val.{SFits, to_z, of_z}
use mir.Facts.{to_z-of_z}
use Rattle.shape.specs.Shape.{frame_length}
use Rattle.decoder.specs.declared.SilkDecoderState.{SilkDecoderState}
use Rattle.decode_frame.specs.Call.{shape_at}
use Rattle.record.specs.Record.{is_received, params_in, control_in, rows_in, lines_in, pulses_in}
use Rattle.record.specs.Recorded.{Recorded, lost, received, recorded_in}
use Rattle.playback.specs.Playback.{call_of, sound_of, samples_from}
use Rattle.recording.specs.Frames.{Inside}
use Rattle.heard.specs.Loud.{any_beyond, heard_of}
use Rattle.heard.specs.declared.Heard.{Heard}
use Rattle.heard.proofs.Laws.{beyond-append}
use Rattle.culprit.specs.Search.{losing, was_received, passes, is_culprit, first_from}

pub or_false : (a b : Bool) → a ≡ false → (a || b) ≡ b
or_false a b e = ap (λ (t : Bool). t || b) e

pub and_true : (a b : Bool) → a ≡ true → (a && b) ≡ b
and_true a b e = ap (λ (t : Bool). t && b) e

-- a number as a call is told it
abbrev pub told : ℤ → ℤ
told z = to_z w32 (of_z w32 z)

module _ (l khz nb : ℤ) where
  -- the state that a frame leaves
  abbrev pub after : SilkDecoderState → Recorded → SilkDecoderState
  after s x = (sound_of s (call_of khz nb x)).state

  abbrev pub loud : SilkDecoderState → Recorded → Bool
  loud s x = any_beyond l (take (frame_length (shape_at (call_of khz nb x))) (sound_of s (call_of khz nb x)).samples)

  pub passes_told : SFits w32 l → SFits w32 khz → SFits w32 nb → (s : SilkDecoderState) (xs : List Recorded)
      → passes (told l) (told khz) (told nb) s xs ≡ passes l khz nb s xs
  passes_told f g h s xs = λ i. passes (to_z-of_z f i) (to_z-of_z g i) (to_z-of_z h i) s xs

  pub culprit_told : SFits w32 l → SFits w32 khz → SFits w32 nb → (s : SilkDecoderState) (xs : List Recorded)
      → is_culprit (told l) (told khz) (told nb) s xs ≡ is_culprit l khz nb s xs
  culprit_told f g h s xs = λ i. is_culprit (to_z-of_z f i) (to_z-of_z g i) (to_z-of_z h i) s xs

  pub passes_nil : (s : SilkDecoderState) → passes l khz nb s [] ≡ false
  unfolding passes samples_from any_beyond
  passes_nil s = refl

  pub passes_cons : (s : SilkDecoderState) (x : Recorded) (xs : List Recorded)
      → passes l khz nb s (x ∷ xs) ≡ (loud s x || passes l khz nb (after s x) xs)
  unfolding passes samples_from
  passes_cons s x xs = beyond-append l (take (frame_length (shape_at (call_of khz nb x))) (sound_of s (call_of khz nb x)).samples) (samples_from khz nb (after s x) xs)

  -- a frame that was heard, then the others
  pub heard-step : (s : SilkDecoderState) (x : Recorded) (xs : List Recorded) (h : Heard) → h ≡ heard_of l s (call_of khz nb x)
      → passes l khz nb s (x ∷ xs) ≡ (h.loud || passes l khz nb h.state xs)
  unfolding heard_of
  heard-step s x xs h e = passes_cons s x xs ∙ sym (λ i. (e i).loud || passes l khz nb (e i).state xs)

  -- the state before the frame at place k
  unfoldable pub state_at : SilkDecoderState → List Recorded → ℕ → SilkDecoderState
  state_at s [] k = s
  state_at s (x ∷ xs) zero = s
  state_at s (x ∷ xs) (suc k) = state_at (after s x) xs k

  pub state_first : (s : SilkDecoderState) (xs : List Recorded) → state_at s xs 0 ≡ s
  unfolding state_at
  state_first s [] = refl
  state_first s (x ∷ xs) = refl

  pub state_next : (s : SilkDecoderState) (xs : List Recorded) (k : ℕ) → k < length xs → after (state_at s xs k) (get_or xs k lost) ≡ state_at s xs (suc k)
  unfolding state_at
  state_next s [] k h = absurd (omega (arith, h))
  state_next s (x ∷ xs) zero h = sym (state_first (after s x) xs)
  state_next s (x ∷ xs) (suc k) h = state_next (after s x) xs k (omega (arith, h))

  -- where the frames as recorded pass nothing, a loss is heard from its own frame on
  pub from_the_loss : (s : SilkDecoderState) (xs : List Recorded) (k : ℕ) → k < length xs → passes l khz nb s xs ≡ false
      → passes l khz nb s (losing xs k) ≡ passes l khz nb (state_at s xs k) (lost ∷ drop (suc k) xs)
  unfolding losing state_at
  from_the_loss s [] k h e = absurd (omega (arith, h))
  from_the_loss s (x ∷ xs) zero h e = refl
  from_the_loss s (x ∷ xs) (suc k) h e =
      let p = or_parts (loud s x) (passes l khz nb (after s x) xs) (sym (passes_cons s x xs) ∙ e) in
      passes_cons s x (losing xs k) ∙ ap (λ (t : Bool). t || passes l khz nb (after s x) (losing xs k)) p.0
      ∙ from_the_loss (after s x) xs k (omega (arith, h)) p.1

-- ---- the search
pub first-start : (f : ℕ → Bool) (n : ℕ) → first_from f 0 n ≡ first_from f 0 (n - 0)
first-start f n = let z : n ≡ n - 0 = omega arith in ap (first_from f 0) z

pub first_here : (f : ℕ → Bool) (k n : ℕ) → k < n → f k ≡ true → first_from f k (n - k) ≡ Some (k + 1)
unfolding first_from
first_here f k n h e =
    let m : n - k ≡ suc (n - suc k) = omega arith in
    let q : suc k ≡ k + 1 = omega arith in
    ap (first_from f k) m ∙ ap (λ (t : Bool). cond t (Some (suc k)) (first_from f (suc k) (n - suc k))) e ∙ ap Some q

pub first_later : (f : ℕ → Bool) (k n : ℕ) → k < n → f k ≡ false → first_from f k (n - k) ≡ first_from f (k + 1) (n - (k + 1))
unfolding first_from
first_later f k n h e =
    let m : n - k ≡ suc (n - suc k) = omega arith in
    let q : suc k ≡ k + 1 = omega arith in
    ap (first_from f k) m ∙ ap (λ (t : Bool). cond t (Some (suc k)) (first_from f (suc k) (n - suc k))) e
    ∙ ap (λ (j : ℕ). first_from f j (n - j)) q

pub first-none : (f : ℕ → Bool) (n : ℕ) → first_from f n (n - n) ≡ None
unfolding first_from
first-none f n = let z : n - n ≡ 0 = omega arith in ap (first_from f n) z

-- ---- the frames of the first n of some records
-- records behind a place lie within the bytes too
pub behind-lies : (b r : List ℕ) (k : ℕ) → Inside b r → Inside b (drop k r)
behind-lies b r k h i = rw (get_or-drop k r i 0) (h (k + i))

module _ (f : ℕ → Recorded) (r : List ℕ) where
  abbrev frames : List Recorded
  frames = map f r

  pub frames_many : length frames ≡ length r
  frames_many = length-map r f

  pub frame_at : (k : ℕ) → k < length r → get_or frames k lost ≡ f (get_or r k 0)
  frame_at k q = get_or-map f r k 0 lost q

  pub frames-from : (k : ℕ) → k < length r → map f (drop k r) ≡ f (get_or r k 0) ∷ map f (drop (suc k) r)
  frames-from k q = ap (map f) (drop-cons r k 0 q)

  pub frames-step : (l khz nb : ℤ) (s : SilkDecoderState) (k : ℕ) (d : Heard) → k < length r → d ≡ heard_of l s (call_of khz nb (f (get_or r k 0)))
      → passes l khz nb s (map f (drop k r)) ≡ (d.loud || passes l khz nb d.state (map f (drop (k + 1) r)))
  frames-step l khz nb s k d q e =
      let m : suc k ≡ k + 1 = omega arith in
      ap (passes l khz nb s) (frames-from k q) ∙ heard-step l khz nb s (f (get_or r k 0)) (map f (drop (suc k) r)) d e
      ∙ ap (λ (j : ℕ). d.loud || passes l khz nb d.state (map f (drop j r))) m

  pub frames_done : (l khz nb : ℤ) (s : SilkDecoderState) (k : ℕ) → k ≡ length r → passes l khz nb s (map f (drop k r)) ≡ false
  frames_done l khz nb s k e =
      ap (λ (ks : List ℕ). passes l khz nb s (map f ks)) (drop_of_length-le r {i = k} (omega (arith, e))) ∙ passes_nil l khz nb s

  -- the test of a place, from the state before its frame
  pub culprit_is : (l khz nb : ℤ) (s : SilkDecoderState) (k : ℕ) → k < length r → passes l khz nb s frames ≡ false
      → is_culprit l khz nb s frames k
      ≡ (was_received (f (get_or r k 0)) && passes l khz nb (state_at l khz nb s frames k) (lost ∷ map f (drop (k + 1) r)))
  unfolding is_culprit
  culprit_is l khz nb s k q e =
      let a = frame_at k q in
      let b = from_the_loss l khz nb s frames k (omega (arith, frames_many, q)) e in
      let m : suc k ≡ k + 1 = omega arith in
      let d : drop (suc k) frames ≡ map f (drop (k + 1) r) = drop-map f (suc k) r ∙ ap (λ (j : ℕ). map f (drop j r)) m in
      (λ i. was_received (a i) && b i) ∙ ap (λ (xs : List Recorded). was_received (f (get_or r k 0)) && passes l khz nb (state_at l khz nb s frames k) (lost ∷ xs)) d

  -- the state before the next frame
  pub state_on : (l khz nb : ℤ) (s : SilkDecoderState) (k : ℕ) → k < length r
      → (sound_of (state_at l khz nb s frames k) (call_of khz nb (f (get_or r k 0)))).state ≡ state_at l khz nb s frames (k + 1)
  state_on l khz nb s k q =
      let m : suc k ≡ k + 1 = omega arith in
      ap (after l khz nb (state_at l khz nb s frames k)) (sym (frame_at k q)) ∙ state_next l khz nb s frames k (omega (arith, frames_many, q))
      ∙ ap (state_at l khz nb s frames) m

-- a record's kind
pub kind_in : (d : List ℕ) → was_received (recorded_in d) ≡ is_received d
unfolding recorded_in was_received
kind_in d = go (is_received d)
  where
    go : (t : Bool) → was_received (cond t (received (params_in d) (control_in d) (rows_in d) (lines_in d) (pulses_in d)) lost) ≡ t
    go true = refl
    go false = refl
