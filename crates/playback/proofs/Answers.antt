-- What a call leaves, and what playing a recording answers, refused or not.
use Prim.Native.Nat.{ℕ, ◌-◌, ◌*◌, ◌≤◌}
use mathlib.Core.Path.{◌≡◌, refl, sym, ap, ◌∙◌}
use mathlib.Core.Bool.{false}
use mathlib.Core.List.{List, [], ◌∷◌, ◌++◌}
use borrow.Author.Tests.{ltb-false}
use lib.Dec.{ltb}
use lib.IntN.{ℤ}
use lib.ListN.{length, drop, length-map}
use Rattle.std.specs.Prelude.{Result, Ok, Err, IfOk}
use Rattle.refusal.specs.First.{◌gives◌, first_of}
use Rattle.refusal.specs.Refusals.{Judged, code_of}
use Rattle.refusal.specs.declared.Refusal.{Refusal}
use Rattle.refusal.specs.declared.Refusal.TheVariants.{Record}
use Rattle.refusal.proofs.Clear.{clear}
use Rattle.decoder.specs.declared.SilkDecoderState.{SilkDecoderState}
use Rattle.chain.specs.Chain.{records_in, chain_of, on_chain}
use Rattle.decode_frame.specs.Call.{Call}
use Rattle.decode_frame.specs.Answer.{frame_answer, state_left}
use Rattle.lists.specs.Lists.{state_after}
use Rattle.recording.specs.Frames.{frames_in}
use Rattle.recording.specs.Reading.{read_refusal}
use Rattle.recording.proofs.Rows.{then_err, passed_then}
use Rattle.playback.specs.declared.Played.{Played}
use Rattle.playback.specs.Playback.{received_in, played_samples, play_refusal, play_of}

pub length-frames : (b : List ℕ) → length (frames_in b) ≡ length (on_chain (chain_of b))
unfolding frames_in
length-frames b = length-map (on_chain (chain_of b)) _

pub left : (s : SilkDecoderState) (x : Call) → state_left s (frame_answer s x) ≡ state_after s x
unfolding state_after
left s x = refl

module _ (b : List ℕ) (out : List ℤ) where
  -- the room, as a call judges it
  module _ {q : Judged} {m : ℕ} (j : q ≡ first_of ((ltb (length out) m gives Record) ∷ [])) (d : m ≡ 320 * (records_in b - 1)) where
    room_row : q ≡ first_of ((ltb (length out) (320 * (records_in b - 1)) gives Record) ∷ [])
    room_row = j ∙ ap (λ (n : ℕ). first_of ((ltb (length out) n gives Record) ∷ [])) d

    pub too_short : {e : Refusal} → q ≡ Err e → play_refusal b (length out) ≡ Err e
    unfolding play_refusal
    too_short h = then_err (ltb (length out) (320 * (records_in b - 1)) gives Record) [] (read_refusal b) (sym room_row ∙ h)

    row-clear : q ≡ Ok tt → ltb (length out) (320 * (records_in b - 1)) ≡ false
    row-clear h = (clear ((ltb (length out) (320 * (records_in b - 1)) gives Record) ∷ []) (ap code_of (sym room_row ∙ h))).0

    pub has_room : q ≡ Ok tt → 320 * (records_in b - 1) ≤ length out
    has_room h = ltb-false (length out) (320 * (records_in b - 1)) (row-clear h)

    pub by_reading : q ≡ Ok tt → play_refusal b (length out) ≡ read_refusal b
    unfolding play_refusal
    by_reading h = passed_then ((ltb (length out) (320 * (records_in b - 1)) gives Record) ∷ []) (read_refusal b) (row-clear h, tt)

  pub play_refused : {e : Refusal} {t : Result Played Refusal} → play_refusal b (length out) ≡ Err e → t ≡ Err e
      → (record { answer = t; output = out } ≡ play_of b out) × IfOk t (λ p. p.samples ≤ 19200)
  unfolding play_of
  play_refused h k = (rw (h, k) refl, rw k tt)

  pub play_accepted : play_refusal b (length out) ≡ Ok tt
      → record {
        answer = Ok (record { received = received_in (frames_in b); concealed = length (frames_in b) - received_in (frames_in b); samples = length (played_samples b) });
        output = played_samples b ++ drop (length (played_samples b)) out;
      }
      ≡ play_of b out
  unfolding play_of
  play_accepted h = rw h refl
