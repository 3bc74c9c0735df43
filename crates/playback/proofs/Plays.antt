-- Every frame of an accepted recording is played.
use Prim.Native.Nat.{ℕ, ◌+◌, ◌*◌, ◌≤◌}
use mathlib.Core.Path.{◌≡◌}
use mathlib.Core.Bool.{Bool, true, false, cond}
use mathlib.Core.List.{List, [], ◌∷◌, map}
use native.Mathlib.Omega.{arith}
use lib.Dec.{eqb}
use lib.IntN.{ℤ, pos}
use lib.ListN.{length, get_or, drop, length-map, length-replicate}
use mir.Syntax.{Width, w16, w32}
use Rattle.word.proofs.Lists.{length-tabulate}
use Rattle.word.proofs.Words.{wrap-fits}
use Rattle.word.proofs.Fits.{zero_fits, tabulate-fits}
use Rattle.le.specs.Bytes.{signed_at, words_at}
use Rattle.refusal.specs.Refusals.{code_of}
use Rattle.refusal.proofs.Clear.{accepted}
use Rattle.refusal.proofs.Earliest.{earlier-clear}
use Rattle.shape.specs.Shape.{shape, is_rate, is_count}
use Rattle.shape.proofs.Shapes.{frame_le}
use Rattle.decoder.specs.Typed.{Words, TypedControl, TypedRows, TypedLines}
use Rattle.decoder.proofs.SetUps.{set_up_state}
use Rattle.decoder.proofs.Types.{zeros-words}
use Rattle.record.specs.Record.{params_in, control_in, rows_in, lines_in, pulses_in}
use Rattle.record.specs.Recorded.{Recorded, lost, received, recorded_in}
use Rattle.chain.specs.Chain.{chain_of, on_chain}
use Rattle.recording.specs.Frames.{rate_in, count_in, recorded_at, frames_in, described, described_all}
use Rattle.recording.proofs.Answers.{rows-clear, few-frames}
use Rattle.lists.specs.Claims.{Every, TypedCall, TypedCalls, Playable}
use Rattle.lists.proofs.Plays.{frames_played}
use Rattle.playback.specs.Playback.{no_control, silence, call_of, plain, start_of}
use Rattle.playback.specs.Claims.{RecordingPlays}
use Rattle.playback.proofs.Read.{settings-fit}
use Rattle.playback.proofs.Answers.{length-frames}

-- words that are read are words
words_typed : (w : Width) (b : List ℕ) (at n : ℕ) → Words w n (words_at w b at n)
unfolding signed_at
words_typed w b at n = record { count = length-tabulate n _; fits = tabulate-fits n _ (λ i l. wrap-fits w _) }

-- what a record brings has the ranges of its types
abbrev Fit : Recorded → Type 0
Fit lost = Unit {0}
Fit (received q c rows lines pulses) = TypedControl c × TypedRows rows × TypedLines lines × Words w16 320 pulses

control_typed : (b : List ℕ) → TypedControl (control_in b)
unfolding control_in signed_at
control_typed b =
    record {
      pitch_l = words_typed w32 b 5 4;
      gains_q16 = words_typed w32 b 21 4;
      ltp_coef_q14 = words_typed w16 b 101 20;
      ltp_scale_q14 = wrap-fits w32 _;
    }

fit : (b : List ℕ) → Fit (recorded_in b)
unfolding recorded_in rows_in lines_in pulses_in
fit b = go (eqb (get_or b 0 0) 1)
  where
    go : (t : Bool) → Fit (cond t (received (params_in b) (control_in b) (rows_in b) (lines_in b) (pulses_in b)) lost)
    go true = (control_typed b, record { first = words_typed w16 b 37 16; second = words_typed w16 b 69 16 }, words_typed w16 b 145 16, words_typed w16 b 177 320)
    go false = tt

module _ (khz nb : ℤ) (e : is_rate khz ≡ true) (f : is_count nb ≡ true) where
  typed : (x : Recorded) → Fit x → TypedCall (call_of khz nb x)
  unfolding call_of no_control
  typed lost t =
      record {
        control = record { pitch_l = zeros-words 4; gains_q16 = zeros-words 4; ltp_coef_q14 = zeros-words 20; ltp_scale_q14 = zero_fits w32 };
        beside = tt;
      }
  typed (received q c rows lines pulses) t =
      record { control = t.0; beside = record { rows = t.1; lines = t.2; pulses = t.3.fits } }

  playable : (x : Recorded) → Fit x → code_of (described (shape khz nb) x) ≡ 0 → Playable (call_of khz nb x)
  unfolding call_of described silence
  playable lost t d =
      record { rate = e; count = f; described = tt; room = rw (length-replicate {A = ℤ} 320 (pos 0)) (frame_le khz nb) }
  playable (received q c rows lines pulses) t d =
      record {
        rate = e;
        count = f;
        described = (accepted _ d, rw t.3.count (frame_le khz nb));
        room = rw (length-replicate {A = ℤ} 320 (pos 0)) (frame_le khz nb);
      }

  module _ (b : List ℕ) where
    all_typed : (ks : List ℕ) → TypedCalls (map (call_of khz nb) (map (recorded_at b) ks))
    unfolding recorded_at
    all_typed [] = Every.none
    all_typed (k ∷ ks) = Every.then (typed (recorded_at b k) (fit (drop (1024 * k + 2) b))) (all_typed ks)

    all-playable : (ks : List ℕ) → code_of (described_all (shape khz nb) (map (recorded_at b) ks)) ≡ 0 → Every Playable (map (call_of khz nb) (map (recorded_at b) ks))
    unfolding recorded_at described_all
    all-playable [] d = Every.none
    all-playable (k ∷ ks) d =
        let c = earlier-clear (described (shape khz nb) (recorded_at b k)) (described_all (shape khz nb) (map (recorded_at b) ks)) d in
        Every.then (playable (recorded_at b k) (fit (drop (1024 * k + 2) b)) c.0) (all-playable ks c.1)

pub recording_plays : RecordingPlays
unfolding frames_in
recording_plays b t a =
    let r = rows-clear b a in
    let ks = on_chain (chain_of b) in
    let l : length (map (call_of (rate_in b) (count_in b)) (frames_in b)) ≤ 2147483647 = omega (arith, length-map (frames_in b) (call_of (rate_in b) (count_in b)), length-frames b, few-frames b r.whole) in
    let s = set_up_state (rate_in b) (count_in b) plain r.rate r.count settings-fit in (
      s,
      frames_played (rate_in b) (count_in b) plain (start_of b) (map (call_of (rate_in b) (count_in b)) (frames_in b))
          s
          (all_typed (rate_in b) (count_in b) r.rate r.count b ks)
          l
          (all-playable (rate_in b) (count_in b) r.rate r.count b ks r.described),
    )
