-- The calls of a load are typed and playable, so that they are played.
use Prim.Native.Nat.{ℕ, suc, ◌≤◌}
use mathlib.Core.Path.{◌≡◌, refl, ap}
use mathlib.Core.Bool.{Bool, true, false}
use mathlib.Core.List.{List, [], ◌∷◌}
use native.Mathlib.Omega.{arith}
use lib.IntN.{ℤ}
use lib.ListN.{length}
use Rattle.shape.specs.Shape.{shape, is_rate, is_count, frame_length}
use Rattle.shape.proofs.Shapes.{frame_le}
use Rattle.decoder.proofs.SetUps.{set_up-fresh}
use Rattle.lists.specs.Claims.{Every, none, then, TypedCall, TypedCalls, Playable}
use Rattle.lists.proofs.Plays.{frames_played}
use Rattle.load.specs.Load.{before, is_received, pulses_of}
use Rattle.load.proofs.Valid.{drawn_valid, drawn_typed}
use Rattle.generator.specs.Draws.{drawn}
use Rattle.load_lists.specs.Calls.{call_of, calls_from}
use Rattle.load_lists.specs.Claims.{LoadPlayed, AnyLosses}

module _ (khz nb seed : ℤ) where
  typed_call : (x : ℤ) (received : Bool) (o : List ℤ) → TypedCall (call_of khz nb seed x received o)
  unfolding call_of
  typed_call x true o =
      let t = drawn_typed x khz in
      record { control = t.control; beside = record { rows = t.rows; lines = t.lines; pulses = t.pulses.fits } }
  typed_call x false o = record { control = (drawn_typed x khz).control; beside = tt }

  typed : (received : ℕ → Bool) (i : ℕ) (outs : List (List ℤ)) → TypedCalls (calls_from khz nb seed received i outs)
  unfolding calls_from
  typed received i [] = none
  typed received i (o ∷ os) = then (typed_call (before seed i) (received i) o) (typed received (suc i) os)

  as_many : (received : ℕ → Bool) (i : ℕ) (outs : List (List ℤ)) → length (calls_from khz nb seed received i outs) ≡ length outs
  unfolding calls_from
  as_many received i [] = refl
  as_many received i (o ∷ os) = ap suc (as_many received (suc i) os)

  module _ (r : is_rate khz ≡ true) (n : is_count nb ≡ true) where
    playable-call : (x : ℤ) (received : Bool) (o : List ℤ) → frame_length (shape khz nb) ≤ length o → Playable (call_of khz nb seed x received o)
    unfolding call_of
    playable-call x true o h =
        let p : length (pulses_of x) ≡ 320 = (drawn_typed x khz).pulses.count in
        record { rate = r; count = n; described = (drawn_valid x khz nb, omega (arith, frame_le khz nb, p)); room = h }
    playable-call x false o h = record { rate = r; count = n; described = tt; room = h }

    playable : (received : ℕ → Bool) (i : ℕ) {outs : List (List ℤ)} → Every (λ o. frame_length (shape khz nb) ≤ length o) outs
        → Every Playable (calls_from khz nb seed received i outs)
    unfolding calls_from
    playable received i none = none
    playable received i (then {x} h hs) = then (playable-call (before seed i) (received i) x h) (playable received (suc i) hs)

pub any_losses_lem : AnyLosses
any_losses_lem received khz nb v s seed k i outs e l =
    let f = set_up-fresh khz nb v s e in
    let x = drawn seed k in
    frames_played khz nb v s (calls_from khz nb x received i outs) e (typed khz nb x received i outs) (rw (as_many khz nb x received i outs) l.few)
    (playable khz nb x f.rate f.count received i l.room)

pub load_played : LoadPlayed
load_played khz nb v s seed k i outs e l = any_losses_lem (λ j. is_received (before (drawn seed k) j)) khz nb v s seed k i outs e l
