use mathlib.Core.Path.{◌≡◌, sym, ap, ◌∙◌}
use native.Mathlib.Omega.{arith}
use borrow.Author.Rules.{rules}
use Prim.Native.Nat.{◌*◌, ◌≤◌}
use mir.Syntax.{w32}
use mir.Val.{SFits}
use mir.Facts.{to_z-of_z, to_z_pos}
use Rattle.shape.specs.Shape.{rate_of}
use Rattle.shape.proofs.Shapes.{rate_le}
use Rattle.plc.specs.Hold.{plc_ready, plc_reset}
use Rattle.plc.proofs.Numbers.{same_number, other-number, rate_times, frame_most}
use Rattle.plc.proofs.update.ready.Goals.{After-rate_of-rate, After-subfr_length}
use Rattle.plc.proofs.update.ready.Goals as goal

rate : (c : After-rate_of-rate) → c.rate_of-rate.result ≡ rate_of c.args.khz
rate c = c.rate_of-rate.ensures ∙ ap rate_of (to_z-of_z c.ranges.khz)

slow : (c : After-rate_of-rate) → c.rate_of-rate.result ≤ 16
slow c = rw (rate c) (rate_le c.args.khz)

-- the samples of the frame
frame : (c : After-subfr_length) → c.subfr_length.result * c.args.subframes ≤ 320
frame c =
    rw (rate_times 5 (to_z-of_z c.ranges.khz) c.subfr_length.ensures) (frame_most (rate_of c.args.khz) c.args.subframes (rate_le c.args.khz) c.requires)

pub overflow_cast-rate : goal.overflow_cast-rate
overflow_cast-rate c = let l = slow (goal.at.overflow_cast-rate c).After-rate_of-rate in search rules

pub returns-then-rate-h : goal.returns-then-rate-h
unfolding plc_ready
returns-then-rate-h c =
    let fs = c.args.h.fs_khz in
    let f : SFits w32 fs = record { sfits = c.struct_told-1.given.1.1.1.1.1.1.1.1.1.1.0.1 } in
    rw (same_number (rate_of c.args.khz) fs (omega (arith, rate_le c.args.khz)) f (sym (rate (goal.at.returns-then-rate-h c).After-rate_of-rate) ∙ c.if-rate-h.true))

pub overflow_mul-result : goal.overflow_mul-result
overflow_mul-result c = let l = frame (goal.at.overflow_mul-result c).After-subfr_length in search rules

pub overflow_mul-result-2 : goal.overflow_mul-result-2
overflow_mul-result-2 c = let l = frame (goal.at.overflow_mul-result-2 c).After-subfr_length in search rules

pub overflow_cast-result : goal.overflow_cast-result
overflow_cast-result c = let l = frame (goal.at.overflow_cast-result c).After-subfr_length in search rules

pub returns : goal.returns
unfolding plc_ready plc_reset
returns c =
    let fs = c.args.h.fs_khz in
    let n = c.args.subframes in
    let f : SFits w32 fs = record { sfits = c.struct_told-1.given.1.1.1.1.1.1.1.1.1.1.0.1 } in
    rw (
      other-number (rate_of c.args.khz) fs (omega (arith, rate_le c.args.khz)) f (λ e. c.if-rate-h.false (rate (goal.at.returns c).After-rate_of-rate ∙ e)),
      to_z_pos w32 {n = c.subfr_length.result * n * 128} (omega (arith, frame (goal.at.returns c).After-subfr_length)),
      to_z_pos w32 {n = c.rate_of-rate.result} (omega (arith, slow (goal.at.returns c).After-rate_of-rate)),
      rate (goal.at.returns c).After-rate_of-rate,
      rate_times 5 (to_z-of_z c.ranges.khz) c.subfr_length.ensures,
    )
    (search rules)
