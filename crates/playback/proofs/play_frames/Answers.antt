use Prim.Native.Nat.{ℕ, ◌+◌, ◌*◌, ◌≤◌}
use mathlib.Core.Path.{◌≡◌, refl, sym, ap, ◌∙◌, subst}
use native.Mathlib.Omega.{arith}
use native.Mathlib.Nat.{le_antisymm}
use lib.ListN.{length, take}
use mir.Syntax.{w32}
use mir.Val.{to_z, of_z}
use mir.Facts.{to_z-of_z}
use Rattle.sigproc.specs.Place.{put_at}
use Rattle.shape.proofs.Shapes.{frame_le}
use Rattle.record.specs.Recorded.{recorded_in}
use Rattle.recording.specs.Frames.{recorded_at}
use Rattle.playback.specs.Playback.{call_of, sound_of}
use Rattle.playback.proofs.Frames.{Played, none-played, one_more, all_count, all_played}
use borrow.Author.Rules.{rules}
use Rattle.playback.proofs.play_frames.Goals.{After-frame_sound-t, In-loop-k}
use Rattle.playback.proofs.play_frames.Goals as goal

-- the room for one frame more
room : (c : In-loop-k) → c.loop-k.k * c.frame_length-size.result + c.frame_length-size.result ≤ length c.loop-k.output
room c =
    let i = c.loop-k.invariant in
    let p = c.requires in
    let l = c.loop-k-test.true in
    let r = i.3.room in
    omega (arith, i.0, i.2, p, l, r)

samples_320 : (c : After-frame_sound-t) → length c.frame_sound-t.result.samples ≡ 320
samples_320 c = search rules

pub loop-k-init : goal.loop-k-init
loop-k-init c =
    let a = c.args in
    let e = c.frame_length-size.ensures in
    let z : 0 * c.frame_length-size.result ≡ 0 = omega arith in
    (refl, e, rw e (frame_le _ _), rw z (none-played _ _ a.s a.frames.now.bytes.now a.frames.now.records.now a.output.now))

pub record-requires : goal.record-requires
record-requires c = c.args.frames.now.inside c.loop-k.k

pub loop-k-preserved : goal.loop-k-preserved
unfolding recorded_at
loop-k-preserved c =
    let i = c.loop-k.invariant in
    let a = c.args in
    let m = c.frame_length-size.result in
    let k : length (put_at c.loop-k.output (c.loop-k.k * m) (take m c.frame_sound-t.result.samples)) ≡ length c.loop-k.output = sym (ap length c.copy_at.ensures) ∙ c.copy_at.auto.dst in
    let e = c.frame_sound-t.ensures ∙ ap (λ d. sound_of c.loop-k.state (call_of (to_z w32 (of_z w32 a.rate)) (to_z w32 (of_z w32 a.subframes)) (recorded_in d))) c.record.ensures in
    let p = one_more (to_z w32 (of_z w32 a.rate)) (to_z w32 (of_z w32 a.subframes)) a.s a.frames.now.bytes.now a.frames.now.records.now a.output.now c.loop-k.output c.loop-k.state (c.loop-k.k * m) c.loop-k.k m c.frame_sound-t.result.samples c.loop-k-test.true i.1 i.2 (samples_320 (goal.at.loop-k-preserved c).After-frame_sound-t) (room (goal.at.loop-k-preserved c).In-loop-k) i.3 c.frame_sound-t.result.state e k in
    let w : (c.loop-k.k + 1) * m ≡ c.loop-k.k * m + m = omega arith in
    (ap length c.copy_at.ensures ∙ k ∙ i.0, i.1, i.2, rw (w, c.copy_at.ensures) p)

pub returns : goal.returns
returns c =
    let i = c.loop-k.invariant in
    let a = c.args in
    let r = to_z-of_z c.ranges.rate in
    let n = to_z-of_z c.ranges.subframes in
    let e = le_antisymm c.loop-k.auto.k-end c.loop-k-test.false in
    let l = length a.frames.now.records.now in
    let m = c.frame_length-size.result in
    let p = subst (λ (j : ℕ). Played (to_z w32 (of_z w32 a.rate)) (to_z w32 (of_z w32 a.subframes)) a.s a.frames.now.bytes.now a.frames.now.records.now a.output.now c.loop-k.output c.loop-k.state (j * m) j) e i.3 in
    let q = p.room in
    let h : l * m ≤ length c.loop-k.output = omega (arith, q, i.0, c.requires) in
    rw (sym r, sym n) (
      all_count _ _ a.s a.frames.now.bytes.now a.frames.now.records.now a.output.now c.loop-k.output c.loop-k.state (l * m) l refl h p,
      all_played _ _ a.s a.frames.now.bytes.now a.frames.now.records.now a.output.now c.loop-k.output c.loop-k.state (l * m) l refl h p,
      q,
    )
