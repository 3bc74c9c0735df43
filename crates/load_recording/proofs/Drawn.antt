-- A load's frames are taken by the writer, and read as they were drawn.
use Prim.Native.Nat.{ℕ, zero, suc, ◌*◌}
use mathlib.Core.Path.{◌≡◌, refl, ap, ◌∙◌, subst}
use mathlib.Core.Bool.{Bool, true, false, cond}
use mathlib.Core.List.{◌∷◌, map}
use native.Mathlib.Omega.{arith}
use lib.IntN.{ℤ, pos, negsuc}
use lib.ListN.{length, take}
use Rattle.std.specs.Prelude.{Ok}
use Rattle.refusal.specs.First.{earlier}
use Rattle.refusal.specs.Refusals.{code_of}
use Rattle.shape.specs.Shape.{shape, rate_of}
use Rattle.decoder.specs.Signals.{signal_of}
use Rattle.generator.specs.Scaled.{pick}
use Rattle.generator.proofs.Scales.{pick-fits}
use Rattle.load.specs.Load.{before, is_received, params_of, control_of, rows_of, lines_of, pulses_of}
use Rattle.load.proofs.Valid.{drawn_valid, drawn_typed}
use Rattle.record.specs.Recorded.{Recorded, lost, received}
use Rattle.record.specs.Claims.{TypedRecorded, by_number}
use Rattle.record.proofs.Ways.{number_of_lem}
use Rattle.recording.specs.Frames.{rate_in, count_in, frames_in, described, described_all}
use Rattle.recording.specs.Reading.{read_refusal}
use Rattle.recorder.specs.Writing.{has_pulses}
use Rattle.round_trip.specs.Claims.{All, write_of}
use Rattle.round_trip.proofs.Writes.{writer_takes}
use Rattle.round_trip.proofs.Reading.{written_is_read}
use Rattle.load_recording.specs.Frames.{recorded_of, frames_from}
use Rattle.load_recording.specs.Claims.{LoadRecorded}

-- a claim of each frame that may be drawn
module _ (P : Recorded → Type 0) (khz seed : ℤ) (h : (x : ℤ) → P (recorded_of khz x)) where
  each : (i n : ℕ) → All P (frames_from khz seed i n)
  unfolding frames_from
  each i zero = tt
  each i (suc n) = (h (before seed i), each (suc i) n)

as_many : (khz seed : ℤ) (i n : ℕ) → length (frames_from khz seed i n) ≡ n
unfolding frames_from
as_many khz seed i zero = refl
as_many khz seed i (suc n) = ap suc (as_many khz seed (suc i) n)

module _ (khz x : ℤ) where
  -- a frame that is received
  abbrev drawn-frame : Recorded
  drawn-frame = received (params_of x) (control_of x (rate_of khz)) (rows_of x) (lines_of x) (pulses_of x)

  typed-frame : TypedRecorded drawn-frame
  unfolding params_of rows_of
  typed-frame =
      let t = drawn_typed x khz in
      record {
        signal = rw (number_of_lem (pick (pos 0) 3 x 1)) (pick-fits (pos 0) 3 x 1 (record { sfits = omega arith }) (record { sfits = omega arith }));
        offset = pick-fits (pos 0) 2 x 2 (record { sfits = omega arith }) (record { sfits = omega arith });
        interpolation = pick-fits (pos 0) 5 x 3 (record { sfits = omega arith }) (record { sfits = omega arith });
        seed = pick-fits (negsuc 127) 256 x 4 (record { sfits = omega arith }) (record { sfits = omega arith });
        control = t.control;
        both = refl;
        coefficients = t.rows;
        frequencies = t.lines;
        excitation = t.pulses;
      }

  numbered-frame : by_number drawn-frame ≡ drawn-frame
  unfolding by_number params_of
  numbered-frame =
      let s = ap signal_of (number_of_lem (pick (pos 0) 3 x 1)) in
      λ i. received (record { signal = s i; quant_offset_type = pick (pos 0) 2 x 2; nlsf_interp_coef_q2 = pick (pos 0) 5 x 3; seed = pick (negsuc 127) 256 x 4 })
      (control_of x (rate_of khz)) (rows_of x) (lines_of x) (pulses_of x)

  long-enough : has_pulses drawn-frame ≡ true
  unfolding has_pulses
  long-enough = rw ((drawn_typed x khz).pulses.count) refl

  -- lost or received
  typed : TypedRecorded (recorded_of khz x)
  unfolding recorded_of
  typed = go (is_received x)
    where
      go : (b : Bool) → TypedRecorded (cond b drawn-frame lost)
      go true = typed-frame
      go false = tt

  numbered : by_number (recorded_of khz x) ≡ recorded_of khz x
  unfolding recorded_of by_number
  numbered = go (is_received x)
    where
      go : (b : Bool) → by_number (cond b drawn-frame lost) ≡ cond b drawn-frame lost
      go true = numbered-frame
      go false = refl

  pulses-are : has_pulses (recorded_of khz x) ≡ true
  unfolding recorded_of has_pulses
  pulses-are = go (is_received x)
    where
      go : (b : Bool) → has_pulses (cond b drawn-frame lost) ≡ true
      go true = long-enough
      go false = refl

  valid : (nb : ℤ) → described (shape khz nb) (recorded_of khz x) ≡ Ok tt
  unfolding recorded_of described
  valid nb = go (is_received x)
    where
      go : (b : Bool) → described (shape khz nb) (cond b drawn-frame lost) ≡ Ok tt
      go true = drawn_valid x khz nb
      go false = refl

module _ (khz nb seed : ℤ) where
  all-numbered : (i n : ℕ) → map by_number (frames_from khz seed i n) ≡ frames_from khz seed i n
  unfolding frames_from
  all-numbered i zero = refl
  all-numbered i (suc n) = λ j. numbered khz (before seed i) j ∷ all-numbered (suc i) n j

  all-valid : (i n : ℕ) → described_all (shape khz nb) (frames_from khz seed i n) ≡ Ok tt
  unfolding frames_from described_all
  all-valid i zero = refl
  all-valid i (suc n) = λ j. earlier (valid khz (before seed i) nb j) (all-valid (suc i) n j)

pub load_recorded_lem : LoadRecorded
load_recorded_lem khz nb seed i n lent e f l m =
    let xs = frames_from khz seed i n in
    let k = as_many khz seed i n in
    let t = writer_takes khz nb lent xs e f (omega (arith, l, k)) (omega (arith, m, k)) (each (λ x. has_pulses x ≡ true) khz seed (pulses-are khz) i n) (ap code_of (all-valid khz nb seed i n)) in
    let r = written_is_read khz nb lent xs (each TypedRecorded khz seed (typed khz) i n) t in
    let w = (write_of khz nb lent xs).bytes in
    let z = subst (λ (q : ℕ). let b = take (1024 * suc q) w in (code_of (read_refusal b) ≡ 0) × (rate_in b ≡ khz) × (count_in b ≡ nb) × (frames_in b ≡ xs)) k
    (r.0, r.1, r.2, r.3 ∙ all-numbered khz nb seed i n) in
    (t, z.0, z.1, z.2, z.3)
