-- What holds at every call of a list.
use Prim.Native.Nat.{ℕ, ◌-◌, ◌≤◌}
use mathlib.Core.Path.{◌≡◌, sym, ap, ◌∙◌, subst}
use mathlib.Core.Logic.{◌⊎◌, inl, inr}
use mathlib.Core.List.{List}
use native.Mathlib.Omega.{arith}
use lib.IntN.{ℤ, pos, nat_abs}
use lib.ListN.{length, drop}
use lib.Seq.{get_or-take, get_or-drop}
use Rattle.sigproc.proofs.Places.{part-take}
use Rattle.refusal.specs.Refusals.{code_of}
use Rattle.shape.specs.Shape.{Shape, frame_length, mem_length, lpc_order}
use Rattle.decoder.specs.State.{shape_of}
use Rattle.decoder.specs.Reshape.{reshaped_by, reshaped}
use Rattle.decoder.proofs.Coming.{Own}
use Rattle.decoder.proofs.SetUps.{set_up-fresh}
use Rattle.decoder.specs.declared.SilkDecoderState.{SilkDecoderState}
use Rattle.decoder.specs.declared.Frame.TheVariants.{Lost}
use Rattle.plc.specs.Conceal.{later_gain, plc_conceal}
use Rattle.decode_frame.proofs.Kept.{Good}
use Rattle.quiet.proofs.Wane.{filter_le}
use Rattle.quiet.proofs.Start.{fits}
use Rattle.decode_frame.specs.Call.{Call, shape_at, state_at}
use Rattle.decode_frame.specs.Answer.{frame_refusal}
use Rattle.lists.specs.Lists.{state_after, held_sum, Losses, no_losses, count_after}
use Rattle.lists.specs.Claims.{Every, none, then, TypedCall}
use Rattle.lists.proofs.Keeps.{new_state, coming_good, keeps, keeps_own, every_map}
use Rattle.lists.proofs.History.{not_refused}
use Rattle.lists.proofs.Lost.{last_frame_lem}
use Rattle.lists.proofs.Losses.{Counts, counts-after, set_up-counts}
use Rattle.lists.proofs.Loud.{shape-after, lost_state, Quietens, fresh, quietens_after, Enough, long-enough, ordinary_enough, place_quiet}
use Rattle.layout.specs.Layout.{part, one, state_in, plc_in}
use Rattle.layout.proofs.Slices.{state_typed, state_long}
use Rattle.stages.specs.Stages.{set_up_on}
use Rattle.post.specs.Stages.{set_up_call}
use Rattle.linked.specs.Linked.{Held, state_of, Linked, brought_by, held_in, At, linked_from, call_of, held_left, losses_after}
use Rattle.linked.specs.Claims.{TypedLinked, FromSetUp, FromAccepted, slices_after, LostPlayed, concealed_in, gain_in, last_frame, gain_held, sum_held, CallQuiet, SlicesQuiet, LinkedHistory, LinkedLosses, LinkedAfter, LinkedQuiet, LinkedSooner}
use Rattle.linked.proofs.Calls.{played, GoodHeld, stored-good, frame-played, frame_not_for_state, frame-left, goes_on}

-- ---- along a list
-- an invariant of the state and of the losses that count, where a call stands
record Stands (R : SilkDecoderState → Losses → Type 0) (t : At) : Type 0 where
  held : GoodHeld t.held
  typed : TypedLinked t.call
  holds : R (state_of t.held) t.losses

module _ (R : SilkDecoderState → Losses → Type 0) (step : (s : SilkDecoderState) (l : Losses) (x : Call) → R s l → TypedCall x → R (state_after s x) (count_after s x l)) where
  along : (m : Held) (l : Losses) {xs : List Linked} → GoodHeld m → R (state_of m) l → Every TypedLinked xs → Every (Stands R) (linked_from m l xs)
  unfolding linked_from
  along m l g r none = none
  along m l g r (then {x} t ts) =
      let k = goes_on m x t g R l r (step (state_of m) l (brought_by x) r) in
      then (record { held = g; typed = t; holds = r }) (along (held_left (call_of m x)) (losses_after m x l) k.0 k.1 ts)

-- ---- where a list starts
set_up-held : (m : Held) → FromSetUp m → GoodHeld m × Counts (state_of m) no_losses
unfolding set_up_call set_up_on
set_up-held m f =
    let p = played _ _ _ _ f.answered in
    let c = set_up-counts f.rate f.subframes f.settings p.value (set_up-fresh f.rate f.subframes f.settings p.value p.is) in
    let l = stored-good f.lent m p.value (f.left ∙ ap held_in p.after) (state_long (length f.lent.words) (length f.lent.halves) p.long) c.good in
    (l.0, subst (λ (s : SilkDecoderState). Counts s no_losses) (sym l.1) c)

pub accepted-held : (m : Held) → FromAccepted m → GoodHeld m
accepted-held m f =
    let l = state_long (length m.words) (length m.halves) f.long in
    record { long = l; good = record { accepted = f.accepted; typed = state_typed m.words m.halves f.words f.halves l.0 l.1 } }

start-held : (m : Held) → FromSetUp m ⊎ FromAccepted m → GoodHeld m
start-held m f = elim f as (λ t. GoodHeld m) [ inl a ↦ (set_up-held m a).0 | inr b ↦ accepted-held m b ]

-- ---- the answers
pub linked_history : LinkedHistory
linked_history m xs f ts =
    let h = set_up-held m f in
    every_map
    (λ t s. frame_not_for_state t.held t.call (brought_by t.call).rate (brought_by t.call).subframes
    (not_refused (state_of t.held) (brought_by t.call) s.holds.0 s.holds.1))
    (along (λ s n. Good s × Own s) (λ s n x k t. (keeps s x k.0 t, keeps_own s x k.0 t k.1)) m no_losses h.0 (h.1.good, h.1.own) ts)

pub linked_losses : LinkedLosses
unfolding state_in
linked_losses m xs f ts =
    let h = set_up-held m f in
    every_map (λ t s. s.holds.count) (along Counts counts-after m no_losses h.0 h.1 ts)

-- ---- a lost frame that answers 0
module _ {R : SilkDecoderState → Losses → Type 0} (t : At) (so : Stands R t) (z : LostPlayed t) where
  abbrev s : SilkDecoderState
  s = state_of t.held

  abbrev x : Call
  x = brought_by t.call

  -- what it leaves
  left : GoodHeld (slices_after t) × (state_of (slices_after t) ≡ state_after s x)
  left = frame-left t.held t.call so.typed so.held z.1

  accepted : code_of (frame_refusal s x) ≡ 0
  accepted = (frame-played t.held t.call z.1).1

  is-new : state_of (slices_after t) ≡ new_state s Lost x
  is-new = left.1 ∙ lost_state s x z.0 accepted

  -- the last frame of the history that a state holds
  abbrev last_of : SilkDecoderState → List ℤ
  last_of u = part u.out_buf (mem_length (shape_of u) - frame_length (shape_of u)) (frame_length (shape_of u))

  in_halves : last_frame (slices_after t) ≡ last_of (state_of (slices_after t))
  unfolding last_frame state_in
  in_halves =
      let p = shape_of (state_of (slices_after t)) in
      let f = fits (state_of (slices_after t)) left.0.good.accepted left.0.good.typed in
      sym (part-take (slices_after t).halves 480 (mem_length p - frame_length p) (frame_length p) (omega (arith, f.shaped.frame_high, f.shaped.rate_high)))

  samples-seen : last_frame (slices_after t) ≡ concealed_in t
  unfolding plc_conceal reshaped reshaped_by
  samples-seen =
      let p = shape_at x in
      let v = state_at s x in
      let u = new_state s Lost x in
      let g = coming_good s x so.held.good accepted in
      in_halves ∙ ap last_of is-new
      ∙ ap (λ (q : Shape). part u.out_buf (mem_length q - frame_length q) (frame_length q)) (shape-after s x)
      ∙ last_frame_lem p v x.control x.rows x.lines x.pulses (fits v g.accepted g.typed)

  gain-seen : gain_held (slices_after t) ≡ gain_in t
  unfolding state_in plc_in
  gain-seen =
      let w = (slices_after t).words in
      let e : later_gain (state_of (slices_after t)).s_plc ≡ one w 353 = get_or-take 2 (drop 352 w) 1 (pos 0) (omega arith) ∙ get_or-drop 352 w 1 (pos 0) in
      ap nat_abs (sym e ∙ ap (λ (u : SilkDecoderState). later_gain u.s_plc) left.1)

  sum-seen : held_sum s x ≤ sum_held t.held t.call
  unfolding held_sum reshaped reshaped_by state_in plc_in
  sum-seen = let v = state_at s x in filter_le v v.s_plc (lpc_order (shape_at x))

module _ {Row : Losses → Type 0} {S k : ℕ} (enough : Enough Row S k) where
  quiet : (t : At) → Stands (Quietens S k) t → CallQuiet Row t
  quiet t so z h = place_quiet enough (state_of t.held) t.losses (brought_by t.call) so.holds z.0 (accepted t so z) h

  quiet-slices : (t : At) → Stands (Quietens S k) t → SlicesQuiet Row t
  quiet-slices t so z h = rw (gain-seen t so z, samples-seen t so z) (quiet t so z h)

  linked-after : LinkedAfter Row
  linked-after m xs f ts =
      let g = start-held m f in
      every_map (λ t so. (quiet t so, λ z. (samples-seen t so z, gain-seen t so z, sum-seen t so z), quiet-slices t so))
      (along (Quietens S k) (quietens_after S k enough.falls) m no_losses g (fresh S k (state_of m) g.good) ts)

pub linked_quiet : LinkedQuiet
linked_quiet = linked-after long-enough

pub linked_sooner : LinkedSooner
linked_sooner = linked-after ordinary_enough
