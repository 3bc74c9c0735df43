-- A call of post_frame is a whole-frame call on the state that the slices hold, unless a slice is short.
use Prim.Native.Nat.{◌≤◌}
use mathlib.Core.Path.{◌≡◌, refl, sym, ap, ◌∙◌, subst}
use mathlib.Core.Bool.{Bool, true, false, cond, false≢true}
use native.Mathlib.Omega.{arith}
use lib.IntN.{ℤ, pos, nat_abs, pos-ne-negsuc}
use lib.ListN.{length}
use Rattle.word.specs.Int.{eq_ℤ}
use Rattle.word.proofs.Order.{eq_ℤ_true}
use Rattle.sigproc.proofs.Places.{length-put_at}
use Rattle.std.specs.Prelude.{Result, Ok, Err}
use Rattle.refusal.specs.Refusals.{Judged, code_of, if_accepted, answered as judged_by}
use Rattle.refusal.proofs.Clear.{refuses, accepted, answered_is}
use Rattle.refusal.specs.declared.Refusal.{Refusal}
use Rattle.decoder.specs.Answer.{answer}
use Rattle.decoder.specs.declared.Answer.{Answer}
use Rattle.decoder.specs.declared.SilkDecoderState.{SilkDecoderState}
use Rattle.decoder.specs.declared.Frame.{Frame}
use Rattle.decoder.specs.declared.Frame.TheVariants.{Received, Lost}
use Rattle.decode_frame.specs.Answer.{frame_refusal, frame_outcome, frame_answer, state_left}
use Rattle.decode_frame.proofs.Kept.{Good}
use Rattle.lists.specs.Lists.{state_after, held_sum, Losses, counted, count_after}
use Rattle.lists.specs.Claims.{NotForState, TypedBeside, TypedCall}
use Rattle.lists.proofs.Keeps.{keeps}
use Rattle.layout.specs.Layout.{WORDS, HALVES, state_words, state_halves, with_words, with_halves}
use Rattle.layout.specs.Frame.{COEFS}
use Rattle.layout.proofs.Stored.{stored, words_count, halves_count}
use Rattle.layout.proofs.Slices.{part-words, control_typed, rows_typed, call_long}
use Rattle.slices.specs.Slices.{Slices, leaves}
use Rattle.slices.specs.Whole.{played_on, answered}
use Rattle.post.specs.Calls.{called}
use Rattle.post.specs.Stages.{call_short, frame_call}
use Rattle.linked.specs.Linked.{Held, state_of, Linked, lent_to, call_of, brought_by, held_in, held_left, losses_after}
use Rattle.linked.specs.Claims.{TypedLinked}

-- ---- an exported call: j is what the call on the state answers, and `left` the slices of its value
-- one that answers 0
pub record Played {A : Type 0} (short : Bool) (j : Result A Refusal) (left : A → Slices) (lent : Slices) : Type 0 where
  pub value : A
  pub long : short ≡ false
  pub is : j ≡ Ok value
  pub after : (called short (leaves j left lent) lent).after ≡ left value

module _ {A : Type 0} where
  pub played : (short : Bool) (j : Result A Refusal) (left : A → Slices) (lent : Slices) → (called short (leaves j left lent) lent).answer ≡ pos 0 → Played short j left lent
  unfolding called
  played true j left lent z = absurd (pos-ne-negsuc 0 0 (sym z))
  played false (Ok a) left lent z = record { value = a; long = refl; is = refl; after = refl }
  played false (Err r) left lent z = absurd (refuses r (ap nat_abs z))

  -- any other leaves the slices as lent
  unplayed : (short : Bool) (j : Result A Refusal) (left : A → Slices) (lent : Slices) → eq_ℤ (called short (leaves j left lent) lent).answer (pos 0) ≡ false → (called short (leaves j left lent) lent).after ≡ lent
  unfolding called
  unplayed true j left lent z = refl
  unplayed false (Ok a) left lent z = absurd (false≢true (sym z))
  unplayed false (Err r) left lent z = refl

  not_for_state : (short : Bool) (j : Judged) (x : A) (left : A → Slices) (lent : Slices) (khz nb : ℤ) → NotForState khz nb (pos (code_of j)) → NotForState khz nb (called short (leaves (judged_by j x) left lent) lent).answer
  unfolding called
  not_for_state true j x left lent khz nb h = (λ e. absurd (pos-ne-negsuc 1 0 (sym e)), λ e. absurd (pos-ne-negsuc 2 0 (sym e)), λ e. pos-ne-negsuc 3 0 (sym e))
  not_for_state false (Ok u) x left lent khz nb h = h
  not_for_state false (Err r) x left lent khz nb h = h

-- ---- slices that hold a good state
abbrev pub Long : Held → Type 0
Long m = (WORDS ≤ length m.words) × (HALVES ≤ length m.halves)

pub record GoodHeld (m : Held) : Type 0 where
  pub long : Long m
  pub good : Good (state_of m)

-- slices with a new state
abbrev pub stored_in : Held → SilkDecoderState → Held
stored_in m s = record { words = with_words m.words s; halves = with_halves m.halves s }

-- they hold it
pub stored-good : (m k : Held) (s : SilkDecoderState) → k ≡ stored_in m s → Long m → Good s → GoodHeld k × (state_of k ≡ s)
stored-good m k s e l g =
    let w = words_count s g.typed in
    let h = halves_count s g.typed in
    let is : state_of k ≡ s = ap state_of e ∙ stored s g.typed m.words m.halves in
    let lw : WORDS ≤ length (with_words m.words s) = rw (length-put_at m.words 0 (state_words s) (omega (arith, l.0))) l.0 in
    let lh : HALVES ≤ length (with_halves m.halves s) = rw (length-put_at m.halves 0 (state_halves s) (omega (arith, l.1))) l.1 in
    (record { long = subst Long (sym e) (lw, lh); good = subst Good (sym is) g }, is)

-- ---- a call of post_frame
module _ (m : Held) (x : Linked) where
  -- what it brings has the ranges of its types, where no slice is too short
  pub brought_typed : TypedLinked x → call_short (lent_to m x) ≡ false → TypedCall (brought_by x)
  brought_typed t e =
      let l = call_long (length m.words) (length m.halves) (length x.frame) (length x.coefs) e in
      record { control = control_typed x.frame x.coefs t.0 t.1 l.2 (omega (arith, l.3)); beside = beside l.3 (brought_by x).frame }
    where
      beside : COEFS ≤ length x.coefs → (f : Frame) → TypedBeside f (brought_by x)
      beside k (Received q) = record { rows = rows_typed x.coefs t.1 k; lines = part-words x.coefs 52 16 t.1 (omega arith); pulses = t.2 }
      beside k Lost = tt

  -- one that answers 0
  pub frame-played : (call_of m x).answer ≡ pos 0 → (call_short (lent_to m x) ≡ false) × (code_of (frame_refusal (state_of m) (brought_by x)) ≡ 0) × (held_left (call_of m x) ≡ stored_in m (state_after (state_of m) (brought_by x)))
  unfolding frame_call answered played_on state_after frame_answer
  frame-played z =
      let s = state_of m in
      let b = brought_by x in
      let p = played _ _ _ _ z in
      let k = answered_is (frame_refusal s b) _ p.value p.is in
      let new = (λ i. state_left s (answer (accepted (frame_refusal s b) k.0 i) (frame_outcome s b))) ∙ ap (λ (a : Answer). a.state) k.1 in
      (p.long, k.0, ap held_in p.after ∙ sym (ap (stored_in m) new))

  frame-unplayed : eq_ℤ (call_of m x).answer (pos 0) ≡ false → held_left (call_of m x) ≡ m
  unfolding frame_call answered
  frame-unplayed z = ap held_in (unplayed _ _ _ _ z)

  pub frame_not_for_state : (khz nb : ℤ) → NotForState khz nb (pos (code_of (frame_refusal (state_of m) (brought_by x)))) → NotForState khz nb (call_of m x).answer
  unfolding frame_call answered frame_answer
  frame_not_for_state khz nb h = not_for_state _ (frame_refusal (state_of m) (brought_by x)) _ _ _ khz nb h

  module _ (t : TypedLinked x) (g : GoodHeld m) where
    -- one that answers 0 leaves what the whole-frame call leaves
    pub frame-left : (call_of m x).answer ≡ pos 0 → GoodHeld (held_left (call_of m x)) × (state_of (held_left (call_of m x)) ≡ state_after (state_of m) (brought_by x))
    frame-left z =
        let p = frame-played z in
        stored-good m (held_left (call_of m x)) (state_after (state_of m) (brought_by x)) p.2 g.long (keeps (state_of m) (brought_by x) g.good (brought_typed t p.0))

    -- an invariant of the state and of the losses that count goes on if the whole-frame call keeps it
    pub goes_on : (R : SilkDecoderState → Losses → Type 0) (l : Losses) → R (state_of m) l
        → (TypedCall (brought_by x) → R (state_after (state_of m) (brought_by x)) (count_after (state_of m) (brought_by x) l))
        → GoodHeld (held_left (call_of m x)) × R (state_of (held_left (call_of m x))) (losses_after m x l)
    unfolding losses_after count_after
    goes_on R l r f = go (eq_ℤ (call_of m x).answer (pos 0)) refl
      where
        next : Losses
        next = counted (brought_by x).frame (held_sum (state_of m) (brought_by x)) l

        go : (b : Bool) → eq_ℤ (call_of m x).answer (pos 0) ≡ b → GoodHeld (held_left (call_of m x)) × R (state_of (held_left (call_of m x))) (cond b next l)
        go true e =
            let z = eq_ℤ_true (call_of m x).answer (pos 0) e in
            let p = frame-played z in
            let k = frame-left z in
            let r = subst (λ (j : Judged). R (state_after (state_of m) (brought_by x)) (if_accepted j next l)) (accepted _ p.1) (f (brought_typed t p.0)) in
            (k.0, subst (λ (s : SilkDecoderState). R s next) (sym k.1) r)
        go false e =
            let s = frame-unplayed e in
            (subst GoodHeld (sym s) g, subst (λ (h : Held). R (state_of h) l) (sym s) r)
