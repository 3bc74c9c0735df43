-- A load's frames, written one behind the other.
use Prim.Native.Nat.{ℕ, suc, ◌+◌, ◌-◌, ◌*◌, ◌≤◌, ◌<◌}
use mathlib.Core.Path.{◌≡◌, sym, ap, ◌∙◌}
use mathlib.Core.List.{List, ◌∷◌}
use native.Mathlib.Omega.{arith}
use lib.IntN.{ℤ}
use Rattle.std.specs.Prelude.{Ok, Err}
use Rattle.std.specs.Result.{IsErrAnd}
use Rattle.refusal.specs.Refusals.{Judged, if_accepted}
use Rattle.refusal.specs.declared.Refusal.{Refusal}
use Rattle.refusal.proofs.Clear.{at_err}
use Rattle.generator.specs.Draws.{drawn}
use Rattle.generator.proofs.Scales.{drawn_add}
use Rattle.load.specs.Load.{before}
use Rattle.record.specs.Recorded.{Recorded}
use Rattle.recorder.specs.Writing.{Left, begin_of, append_of}
use Rattle.round_trip.specs.Claims.{appends_of, write_of}
use Rattle.load_recording.specs.Frames.{recorded_of, frames_from}

-- the generator before the next frame
pub before-next : (seed : ℤ) (i k : ℕ) → drawn (before seed (i + k)) 402 ≡ before seed (i + suc k)
unfolding before
before-next seed i k =
    let e : 402 * (i + k) + 402 ≡ 402 * (i + suc k) = omega arith in
    drawn_add seed (402 * (i + k)) 402 ∙ ap (drawn seed) e

-- of n frames the one behind k of them, and those behind it
pub frames-left : (khz seed : ℤ) (i k n : ℕ) → k < n
    → frames_from khz seed (i + k) (n - k) ≡ recorded_of khz (before seed (i + k)) ∷ frames_from khz seed (i + suc k) (n - suc k)
unfolding frames_from
frames-left khz seed i k n h =
    let e : n - k ≡ suc (n - suc k) = omega (arith, h) in
    let f : suc (i + k) ≡ i + suc k = omega arith in
    ap (frames_from khz seed (i + k)) e ∙ ap (λ (m : ℕ). recorded_of khz (before seed (i + k)) ∷ frames_from khz seed m (n - suc k)) f

module _ (khz nb : ℤ) (b : List ℕ) where
  -- frames behind a recording's record 0, and behind a frame
  abbrev begun : List Recorded → Left → Left
  begun xs t = if_accepted t.judged (appends_of khz nb t.bytes 0 xs) t

  abbrev further : ℕ → List Recorded → Left → Left
  further n xs t = if_accepted t.judged (appends_of khz nb t.bytes (suc n) xs) t

  module _ {t : Judged} {e : Refusal} {d : List ℕ} (k : IsErrAnd t (λ y. y ≡ e)) where
    pub begin-stops : (xs : List Recorded) → record { judged = Err e; bytes = d } ≡ begin_of khz nb b → record { judged = t; bytes = d } ≡ write_of khz nb b xs
    unfolding write_of
    begin-stops xs h = (λ i. record { judged = at_err t e k i; bytes = d }) ∙ ap (begun xs) h

    pub append-stops : (n : ℕ) (x : Recorded) (xs : List Recorded) → record { judged = Err e; bytes = d } ≡ append_of khz nb b n x
        → record { judged = t; bytes = d } ≡ appends_of khz nb b n (x ∷ xs)
    unfolding appends_of
    append-stops n x xs h = (λ i. record { judged = at_err t e k i; bytes = d }) ∙ ap (further n xs) h

  pub begin-passes : {d : List ℕ} (xs : List Recorded) → record { judged = Ok tt; bytes = d } ≡ begin_of khz nb b → write_of khz nb b xs ≡ appends_of khz nb d 0 xs
  unfolding write_of
  begin-passes xs h = ap (begun xs) (sym h)

  pub append-passes : {d : List ℕ} (n : ℕ) (x : Recorded) (xs : List Recorded) → record { judged = Ok tt; bytes = d } ≡ append_of khz nb b n x
      → appends_of khz nb b n (x ∷ xs) ≡ appends_of khz nb d (suc n) xs
  unfolding appends_of
  append-passes n x xs h = ap (further n xs) (sym h)

  -- none are left
  pub none-left : (seed : ℤ) (i k n : ℕ) → n ≤ k → appends_of khz nb b k (frames_from khz seed i (n - k)) ≡ record { judged = Ok tt; bytes = b }
  unfolding appends_of frames_from
  none-left seed i k n h =
      let e : n - k ≡ 0 = omega (arith, h) in
      ap (λ (m : ℕ). appends_of khz nb b k (frames_from khz seed i m)) e
