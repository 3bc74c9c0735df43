use Prim.Native.Nat.{ℕ, suc, ◌+◌, ◌-◌}
use mathlib.Core.Path.{◌≡◌, sym, ap, ◌∙◌}
use mathlib.Core.List.{List, ◌∷◌}
use native.Mathlib.Omega.{arith}
use lib.IntN.{ℤ}
use mir.Syntax.{w32}
use mir.Val.{to_z, of_z}
use mir.Facts.{to_z-of_z}
use Rattle.word.proofs.Words.{kept}
use Rattle.generator.specs.Draws.{drawn}
use Rattle.load.specs.Load.{before}
use Rattle.record.specs.Recorded.{Recorded}
use Rattle.recorder.specs.Writing.{begin_of, append_of}
use Rattle.round_trip.specs.Claims.{appends_of, write_of}
use Rattle.load_recording.specs.Frames.{recorded_of, frames_from}
use Rattle.load_recording.proofs.Writing.{before-next, frames-left, begin-stops, begin-passes, append-stops, append-passes, none-left}
use Rattle.load_recording.proofs.record_load.Goals.{After-append_drawn}
use Rattle.load_recording.proofs.record_load.Goals as goal

pub returns-in_err-begin : goal.returns-in_err-begin
returns-in_err-begin c =
    let a = c.args in
    let r = to_z-of_z c.ranges.rate in
    let n = to_z-of_z c.ranges.subframes in
    begin-stops a.rate a.subframes a.bytes.now c.from_residual.ensures.1 (frames_from a.rate a.seed a.first a.count)
    (c.in_err-begin.ensures ∙ (λ i. begin_of (r i) (n i) a.bytes.now))

-- the numbers that the loop goes by
abbrev back : ℤ → ℤ
back z = to_z w32 (of_z w32 z)

pub loop-i-init : goal.loop-i-init
loop-i-init c =
    let a = c.args in
    let f : a.first ≡ a.first + 0 = omega arith in
    let m : a.count ≡ a.count - 0 = omega arith in
    record {
      last = kept w32 _ c.before-x.type_inv ∙ c.before-x.ensures ∙ ap (before (back a.seed)) f;
      left = begin-passes (back a.rate) (back a.subframes) a.bytes.now (frames_from (back a.rate) (back a.seed) a.first a.count) c.in_ok-begin.ensures
          ∙ (λ i. appends_of (back a.rate) (back a.subframes) c.begin.new.bytes 0 (frames_from (back a.rate) (back a.seed) (f i) (m i)));
    }

-- the loop's frame, and those behind it
module _ (c : After-append_drawn) where
  abbrev frame : Recorded
  frame = recorded_of (back c.args.rate) (before (back c.args.seed) (c.args.first + c.loop-i.i))

  abbrev others : List Recorded
  others = frames_from (back c.args.rate) (back c.args.seed) (c.args.first + suc c.loop-i.i) (c.args.count - suc c.loop-i.i)

  all : write_of (back c.args.rate) (back c.args.subframes) c.args.bytes.now (frames_from (back c.args.rate) (back c.args.seed) c.args.first c.args.count)
      ≡ appends_of (back c.args.rate) (back c.args.subframes) c.loop-i.bytes c.loop-i.i (frame ∷ others)
  all =
      let a = c.args in
      c.loop-i.invariant.left
      ∙ ap (appends_of (back a.rate) (back a.subframes) c.loop-i.bytes c.loop-i.i) (frames-left (back a.rate) (back a.seed) a.first c.loop-i.i a.count c.loop-i-test.true)

  by : append_of (back c.args.rate) (back c.args.subframes) c.loop-i.bytes c.loop-i.i (recorded_of (back c.args.rate) (to_z w32 c.loop-i.x-bits))
      ≡ append_of (back c.args.rate) (back c.args.subframes) c.loop-i.bytes c.loop-i.i frame
  by =
      λ i. append_of (back c.args.rate) (back c.args.subframes) c.loop-i.bytes c.loop-i.i (recorded_of (back c.args.rate) (c.loop-i.invariant.last i))

-- the same over the numbers as they are lent
lent : (b : List ℕ) (i n : ℕ) {khz k nb m seed s : ℤ} → khz ≡ k → nb ≡ m → seed ≡ s → write_of khz nb b (frames_from khz seed i n) ≡ write_of k m b (frames_from k s i n)
lent b i n r c d = λ j. write_of (r j) (c j) b (frames_from (r j) (d j) i n)

pub returns-in_err-append_drawn : goal.returns-in_err-append_drawn
returns-in_err-append_drawn c =
    let a = c.args in
    let b = (goal.at.returns-in_err-append_drawn c).After-append_drawn in
    append-stops (back a.rate) (back a.subframes) c.loop-i.bytes c.from_residual-in_err-append_drawn.ensures.1 c.loop-i.i (frame b) (others b) (c.in_err-append_drawn.ensures ∙ by b)
    ∙ sym (all b)
    ∙ lent a.bytes.now a.first a.count (to_z-of_z c.ranges.rate) (to_z-of_z c.ranges.subframes) (to_z-of_z c.ranges.seed)

pub loop-i-preserved : goal.loop-i-preserved
loop-i-preserved c =
    let a = c.args in
    let b = (goal.at.loop-i-preserved c).After-append_drawn in
    let e : suc c.loop-i.i ≡ c.loop-i.i + 1 = omega arith in
    record {
      last = kept w32 _ c.after-x.type_inv ∙ c.after-x.ensures ∙ ap (λ (z : ℤ). drawn z 402) c.loop-i.invariant.last ∙ before-next (back a.seed) a.first c.loop-i.i
          ∙ ap (λ (k : ℕ). before (back a.seed) (a.first + k)) e;
      left = all b ∙ append-passes (back a.rate) (back a.subframes) c.loop-i.bytes c.loop-i.i (frame b) (others b) (c.in_ok-append_drawn.ensures ∙ by b)
          ∙ ap (λ (k : ℕ). appends_of (back a.rate) (back a.subframes) c.append_drawn.new.bytes k (frames_from (back a.rate) (back a.seed) (a.first + k) (a.count - k))) e;
    }

pub returns : goal.returns
returns c =
    let a = c.args in
    sym (c.loop-i.invariant.left ∙ none-left (back a.rate) (back a.subframes) c.loop-i.bytes (back a.seed) (a.first + c.loop-i.i) c.loop-i.i a.count (omega (arith, c.loop-i-test.false)))
    ∙ lent a.bytes.now a.first a.count (to_z-of_z c.ranges.rate) (to_z-of_z c.ranges.subframes) (to_z-of_z c.ranges.seed)
