use Prim.Native.Nat.{ℕ, ◌+◌}
use mathlib.Core.Path.{◌≡◌, sym, ap, ◌∙◌}
use mathlib.Core.Bool.{◌||◌}
use mathlib.Core.List.{map}
use native.Mathlib.Nat.{le_antisymm}
use lib.ListN.{drop}
use Rattle.std.proofs.lemmas.Bool.{or_left}
use Rattle.record.specs.Recorded.{Recorded, recorded_in}
use Rattle.recording.specs.Frames.{recorded_at}
use Rattle.playback.specs.Playback.{call_of}
use Rattle.heard.specs.Loud.{heard_of}
use Rattle.culprit.specs.Search.{passes}
use Rattle.culprit.proofs.Laws.{or_false, told, passes_told, frames-step, frames_done}
use Rattle.culprit.proofs.passes.Goals.{After-frame_heard-h}
use Rattle.culprit.proofs.passes.Goals as goal

-- a turn
module _ (c : After-frame_heard-h) where
  abbrev frame : ℕ → Recorded
  frame = recorded_at c.args.frames.now.bytes.now

  turn : passes (told c.args.limit) (told c.args.khz) (told c.args.nb_subfr) c.args.s (map frame c.args.frames.now.records.now)
      ≡ (c.frame_heard-h.result.loud || passes (told c.args.limit) (told c.args.khz) (told c.args.nb_subfr) c.frame_heard-h.result.state (map frame (drop (c.loop-i.i-index + 1) c.args.frames.now.records.now)))
  unfolding recorded_at
  turn = c.loop-i.invariant ∙ frames-step frame c.args.frames.now.records.now _ _ _ c.loop-i.state c.loop-i.i-index c.frame_heard-h.result c.loop-i-test.true (c.frame_heard-h.ensures ∙ ap (λ d. heard_of (told c.args.limit) c.loop-i.state (call_of (told c.args.khz) (told c.args.nb_subfr) (recorded_in d))) c.record.ensures)

pub record-requires : goal.record-requires
record-requires c = c.args.frames.now.inside c.loop-i.i-index

pub returns-then-h : goal.returns-then-h
returns-then-h c =
    sym (turn (goal.at.returns-then-h c).After-frame_heard-h ∙ or_left c.frame_heard-h.result.loud _ c.if-h.true)
    ∙ passes_told _ _ _ c.ranges.limit c.ranges.khz c.ranges.nb_subfr c.args.s (map (recorded_at c.args.frames.now.bytes.now) c.args.frames.now.records.now)

pub loop-i-preserved : goal.loop-i-preserved
loop-i-preserved c =
    turn (goal.at.loop-i-preserved c).After-frame_heard-h ∙ or_false c.frame_heard-h.result.loud _ c.if-h.false

pub returns : goal.returns
returns c =
    sym (c.loop-i.invariant ∙ frames_done (recorded_at c.args.frames.now.bytes.now) c.args.frames.now.records.now _ _ _ c.loop-i.state c.loop-i.i-index (le_antisymm c.loop-i.auto.i-index-end c.loop-i-test.false))
    ∙ passes_told _ _ _ c.ranges.limit c.ranges.khz c.ranges.nb_subfr c.args.s (map (recorded_at c.args.frames.now.bytes.now) c.args.frames.now.records.now)
