-- Demand 3, with document 02, Note 12: what is claimed of every place of a list, and of which lists.
use Rattle.std.specs.Prelude.{Ok, ℕ, suc, ◌≤◌, ◌≡◌, true, false, List, [], ◌∷◌, ◌++◌, ℤ, pos, nat_abs, get_or, length}
use Rattle.std.specs.Int.{w16}
use Rattle.std.proofs.Common.{SFits}
use Rattle.word.specs.Size.{Bounded}
use Rattle.refusal.specs.First.{◌gives◌, first_of}
use Rattle.refusal.specs.Refusals.{code_of}
use Rattle.refusal.specs.declared.Refusal.TheVariants.{Line}
use Rattle.shape.specs.Shape.{is_rate, is_count, rate_of, frame_length}
use Rattle.decoder.specs.Accepted.{Accepted}
use Rattle.decoder.specs.Settings.{settings_fit}
use Rattle.decoder.specs.SetUp.{set_up_with}
use Rattle.decoder.specs.Typed.{Typed, TypedControl, TypedRows, TypedLines}
use Rattle.decoder.specs.declared.Settings.{Settings}
use Rattle.decoder.specs.declared.SilkDecoderState.{SilkDecoderState}
use Rattle.decoder.specs.declared.Frame.{Frame}
use Rattle.decoder.specs.declared.Frame.TheVariants.{Received, Lost}
use Rattle.judge.specs.Rows.{param_rows, line_row}
use Rattle.plc.specs.Conceal.{later_gain, plc_conceal}
use Rattle.decode_frame.specs.Call.{Call, shape_at, state_at}
use Rattle.decode_frame.specs.Answer.{frame_refusal}
use Rattle.quiet.specs.Bound.{quiet_bound, small_sum}
use Rattle.lists.specs.Lists.{Losses, Place, state_after, places}

-- a claim of every element
pub data Every {A : Type 0} (P : A → Type 0) : List A → Type 0 where
  none : Every P []
  then : {x : A} {xs : List A} → P x → Every P xs → Every P (x ∷ xs)

-- a claim of every element and its place, counted from k
unfoldable pub Numbered : {A : Type 0} → (ℕ → A → Type 0) → ℕ → List A → Type 0
Numbered P k [] = Unit {0}
Numbered P k (x ∷ xs) = P k x × Numbered P (suc k) xs

-- the rows, lines and pulses of a received frame have the ranges of their types
pub record TypedLent (x : Call) : Type 0 where
  pub rows : TypedRows x.rows
  pub lines : TypedLines x.lines
  pub pulses : (i : ℕ) → SFits w16 (get_or x.pulses i (pos 0))

-- a lost frame brings none
abbrev pub TypedBeside : Frame → Call → Type 0
TypedBeside (Received q) x = TypedLent x
TypedBeside Lost x = Unit {0}

-- what a call brings has the ranges of its types
pub record TypedCall (x : Call) : Type 0 where
  pub control : TypedControl x.control
  pub beside : TypedBeside x.frame x

abbrev pub TypedCalls : List Call → Type 0
TypedCalls xs = Every TypedCall xs

-- an answer to a call with a coming rate and count is not for the state: 1 says that this rate is none, 2 that this count is none, and it is not 3
abbrev pub NotForState : ℤ → ℤ → ℤ → Type 0
NotForState khz nb answer = (answer ≡ pos 1 → is_rate khz ≡ false) × (answer ≡ pos 2 → is_count nb ≡ false) × (answer ≡ pos 3 → ⊥)

-- the call is not refused for the post's own history
abbrev pub HistoryKept : Place → Type 0
HistoryKept t = NotForState t.call.rate t.call.subframes (pos (code_of (frame_refusal t.state t.call)))

abbrev pub Played : Place → Type 0
Played t = code_of (frame_refusal t.state t.call) ≡ 0

-- the concealed samples of a lost frame, by demand 2's definition and before noise
abbrev pub concealed_at : Place → List ℤ
concealed_at t = (plc_conceal (shape_at t.call) (state_at t.state t.call) t.call.control).samples

-- G: the later of concealment's two gains in the new state
abbrev pub gain_after : Place → ℕ
gain_after t = nat_abs (later_gain (state_after t.state t.call).s_plc)

-- 1,024 or more losses count
abbrev pub LongRow : Losses → Type 0
LongRow l = 1024 ≤ l.count

-- 128 or more, and the sizes of the coefficients that concealment held at the first of them add up to at most 4,096
abbrev pub OrdinaryRow : Losses → Type 0
OrdinaryRow l = (128 ≤ l.count) × (l.held ≤ small_sum)

-- a lost frame that is played with such losses before it lies within G/4,194,304, rounded down, plus 64 of zero
abbrev pub NotLoud : (Losses → Type 0) → Place → Type 0
NotLoud Row t = t.call.frame ≡ Lost → Played t → Row t.losses → Bounded (quiet_bound (gain_after t)) (concealed_at t)

-- first half: in every list from a set-up no call is refused for the post's own history, whatever its settings and whichever shapes come
abbrev pub FirstHalf : Type 0
FirstHalf =
    (khz nb : ℤ) (v : Settings) (s : SilkDecoderState) (xs : List Call) → set_up_with khz nb v ≡ Ok s → TypedCalls xs
    → Every HistoryKept (places s xs)

-- in every list from an accepted state a lost frame with such losses before it is quiet
abbrev pub QuietAfter : (Losses → Type 0) → Type 0
QuietAfter Row = (s : SilkDecoderState) (xs : List Call) → Accepted (rate_of s.fs_khz) s → Typed s → TypedCalls xs → Every (NotLoud Row) (places s xs)

-- second half: drops can't keep the post loud
abbrev pub SecondHalf : Type 0
SecondHalf = QuietAfter LongRow

-- document 02, Note 12: ordinary speech is quiet sooner
abbrev pub QuietSooner : Type 0
QuietSooner = QuietAfter OrdinaryRow

-- in every list from a set-up the losses that count are those that the state counts
abbrev pub LossesHeld : Type 0
LossesHeld =
    (khz nb : ℤ) (v : Settings) (s : SilkDecoderState) (xs : List Call) → set_up_with khz nb v ≡ Ok s → TypedCalls xs
    → Every (λ t. t.state.loss_cnt ≡ pos t.losses.count) (places s xs)

-- of a received frame rows 5 to 9 don't apply at its shape, and it is lent 5rn pulses; a lost one meets neither
abbrev pub Described : Frame → Call → Type 0
Described (Received q) x =
    (first_of (param_rows (shape_at x) q x.control ++ (line_row (shape_at x) x.lines gives Line) ∷ []) ≡ Ok tt)
    × (frame_length (shape_at x) ≤ length x.pulses)
Described Lost x = Unit {0}

-- a frame of one of the six shapes that meets none of rows 5 to 11
pub record Playable (x : Call) : Type 0 where
  pub rate : is_rate x.rate ≡ true
  pub count : is_count x.subframes ≡ true
  pub described : Described x.frame x
  pub room : frame_length (shape_at x) ≤ length x.output

-- of up to 2,147,483,647 such frames from a set-up, whatever its settings and their shapes, each is played
abbrev pub FramesPlayed : Type 0
FramesPlayed =
    (khz nb : ℤ) (v : Settings) (s : SilkDecoderState) (xs : List Call) → set_up_with khz nb v ≡ Ok s → TypedCalls xs
    → length xs ≤ 2147483647 → Every Playable xs
    → Every Played (places s xs)

-- neither half is empty: before the k-th of such frames that are lost, counted from 0, there count k losses, with a filter of zeros at the first
abbrev pub LossesPlayed : Type 0
LossesPlayed =
    (khz nb : ℤ) (v : Settings) (xs : List Call) → is_rate khz ≡ true → is_count nb ≡ true → settings_fit v ≡ true
    → length xs ≤ 2147483647 → TypedCalls xs
    → Every (λ x. (x.frame ≡ Lost) × Playable x) xs
    → (s : SilkDecoderState) × (set_up_with khz nb v ≡ Ok s)
    × Numbered (λ k t. Played t × (t.losses ≡ record { count = k; held = 0 })) 0 (places s xs)
