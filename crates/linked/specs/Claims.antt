-- Demand 3, with document 02, Note 12, for a program that links the library: what is claimed of every call of a list, and of which lists.
use Rattle.std.specs.Prelude.{ℕ, ◌-◌, ◌≤◌, ◌≡◌, false, ◌⊎◌, List, [], ℤ, pos, nat_abs, get_or, length}
use Rattle.std.specs.Int.{Width, w16, w32}
use Rattle.std.proofs.Common.{SFits}
use Rattle.word.specs.Size.{sizes, Bounded}
use Rattle.shape.specs.Shape.{shape, rate_of, frame_length, mem_length, lpc_order}
use Rattle.decoder.specs.Accepted.{Accepted}
use Rattle.decoder.specs.declared.Settings.{Settings}
use Rattle.decoder.specs.declared.Frame.TheVariants.{Lost}
use Rattle.plc.specs.Conceal.{later_gain, plc_conceal}
use Rattle.decode_frame.specs.Call.{shape_at, state_at}
use Rattle.quiet.specs.Bound.{quiet_bound}
use Rattle.lists.specs.Lists.{state_after, held_sum, Losses, no_losses}
use Rattle.lists.specs.Claims.{Every, NotForState, LongRow, OrdinaryRow}
use Rattle.layout.specs.Layout.{part, one, short_state}
use Rattle.layout.specs.Frame.{rate_in, subframes_in}
use Rattle.slices.specs.Slices.{slices}
use Rattle.post.specs.Calls.{Called}
use Rattle.post.specs.Stages.{set_up_call}
use Rattle.linked.specs.Linked.{Held, state_of, Linked, call_of, brought_by, held_left, At, linked_from}

-- ---- which lists
-- every number of a slice is one of its type
abbrev pub Slice : Width → List ℤ → Type 0
Slice w xs = (i : ℕ) → SFits w (get_or xs i (pos 0))

-- what a program lends: slices of any length with any numbers of their types
abbrev pub TypedLinked : Linked → Type 0
TypedLinked x = Slice w32 x.frame × Slice w16 x.coefs × Slice w16 x.pulses

-- the call of post_set_up or post_set_up_with, which take words and halves alone
abbrev pub set_up_on : ℤ → ℤ → Settings → Held → Called
set_up_on rate subframes v m = set_up_call rate subframes v (slices m.words m.halves [] [] [] [])

-- slices as it leaves them where it answers 0
pub record FromSetUp (m : Held) : Type 0 where
  pub rate : ℤ
  pub subframes : ℤ
  pub settings : Settings
  pub lent : Held
  pub answered : (set_up_on rate subframes settings lent).answer ≡ pos 0
  pub left : m ≡ held_left (set_up_on rate subframes settings lent)

-- slices that hold an accepted state
pub record FromAccepted (m : Held) : Type 0 where
  pub words : Slice w32 m.words
  pub halves : Slice w16 m.halves
  pub long : short_state (length m.words) (length m.halves) ≡ false
  pub accepted : Accepted (rate_of (state_of m).fs_khz) (state_of m)

-- ---- every call
module _ (t : At) where
  abbrev pub call_at : Called
  call_at = call_of t.held t.call

  -- the slices after the call
  abbrev pub slices_after : Held
  slices_after = held_left call_at

  -- it is a lost frame, and answers 0
  abbrev pub LostPlayed : Type 0
  LostPlayed = ((brought_by t.call).frame ≡ Lost) × (call_at.answer ≡ pos 0)

  -- the concealed samples of a lost frame, by demand 2's definition and before noise
  abbrev pub concealed_in : List ℤ
  concealed_in =
      let x = brought_by t.call in
      (plc_conceal (shape_at x) (state_at (state_of t.held) x) x.control).samples

  -- G: the later of concealment's two gains in the new state
  abbrev pub gain_in : ℕ
  gain_in = nat_abs (later_gain (state_after (state_of t.held) (brought_by t.call)).s_plc)

-- the last frame of the history: the 5rn numbers of halves before place 20r, r and n being the numbers of words at 338 and 339
unfoldable pub last_frame : Held → List ℤ
last_frame m =
    let p = shape (one m.words 338) (one m.words 339) in
    part m.halves (mem_length p - frame_length p) (frame_length p)

-- the number of words at 353, where the later gain stands
abbrev pub gain_held : Held → ℕ
gain_held m = nat_abs (one m.words 353)

-- the sizes of the numbers of halves from 501 on, as many as the order at the call's rate, added up
abbrev pub sum_held : Held → Linked → ℕ
sum_held m x = sizes (part m.halves 501 16) (lpc_order (shape_at (brought_by x)))

-- with such losses before it, a lost frame lies within G/4,194,304, rounded down, plus 64 of zero
abbrev pub CallQuiet : (Losses → Type 0) → At → Type 0
CallQuiet Row t = LostPlayed t → Row t.losses → Bounded (quiet_bound (gain_in t)) (concealed_in t)

-- its concealed samples and G stand in the slices after the call, and the coefficients that concealment goes on from are no larger than
-- those in the slices before it
abbrev pub CallSeen : At → Type 0
CallSeen t =
    LostPlayed t
    → (last_frame (slices_after t) ≡ concealed_in t)
    × (gain_held (slices_after t) ≡ gain_in t)
    × (held_sum (state_of t.held) (brought_by t.call) ≤ sum_held t.held t.call)

-- so the bound holds of what the program itself can read there
abbrev pub SlicesQuiet : (Losses → Type 0) → At → Type 0
SlicesQuiet Row t = LostPlayed t → Row t.losses → Bounded (quiet_bound (gain_held (slices_after t))) (last_frame (slices_after t))

-- ---- the claims
-- from a set-up no call answers 3, 1 where its rate is one, or 2 where its count is one
abbrev pub LinkedHistory : Type 0
LinkedHistory =
    (m : Held) (xs : List Linked) → FromSetUp m → Every TypedLinked xs
    → Every (λ t. NotForState (rate_in t.call.frame) (subframes_in t.call.frame) (call_at t).answer) (linked_from m no_losses xs)

-- and the losses that count are the number of words at 345
abbrev pub LinkedLosses : Type 0
LinkedLosses =
    (m : Held) (xs : List Linked) → FromSetUp m → Every TypedLinked xs
    → Every (λ t. one t.held.words 345 ≡ pos t.losses.count) (linked_from m no_losses xs)

-- from a set-up or from any accepted state, a lost frame with such losses before it is quiet
abbrev pub LinkedAfter : (Losses → Type 0) → Type 0
LinkedAfter Row =
    (m : Held) (xs : List Linked) → FromSetUp m ⊎ FromAccepted m → Every TypedLinked xs
    → Every (λ t. CallQuiet Row t × CallSeen t × SlicesQuiet Row t) (linked_from m no_losses xs)

-- so drops can't keep the post loud
abbrev pub LinkedQuiet : Type 0
LinkedQuiet = LinkedAfter LongRow

-- and ordinary speech is quiet sooner
abbrev pub LinkedSooner : Type 0
LinkedSooner = LinkedAfter OrdinaryRow
