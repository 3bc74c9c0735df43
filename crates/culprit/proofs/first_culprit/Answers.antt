use Prim.Native.Nat.{ℕ, ◌+◌, ◌-◌}
use mathlib.Core.Path.{◌≡◌, sym, ap, ◌∙◌}
use mathlib.Core.Bool.{Bool, ◌&&◌}
use mathlib.Core.List.{List, ◌∷◌, map}
use native.Mathlib.Nat.{le_antisymm}
use lib.ListN.{length}
use Rattle.record.specs.Recorded.{Recorded, lost, recorded_in}
use Rattle.recording.specs.Frames.{recorded_at}
use Rattle.std.proofs.lemmas.List.{take_rest}
use Rattle.playback.specs.Playback.{call_of, sound_of}
use Rattle.record.specs.declared.Sound.{Sound}
use Rattle.culprit.specs.Search.{was_received, passes, is_culprit, first_from}
use Rattle.culprit.proofs.Laws.{told, passes_told, culprit_told, behind-lies, state_first, state_on, culprit_is, first-start, first_here, first_later, first-none}
use Rattle.culprit.proofs.first_culprit.Goals.{After-is_culprit}
use Rattle.culprit.proofs.first_culprit.Goals as goal

-- a place is tested
module _ (c : After-is_culprit) where
  abbrev frame : ℕ → Recorded
  frame = recorded_at c.args.frames.now.bytes.now

  abbrev all : List Recorded
  all = map frame c.args.frames.now.records.now

  -- the test as it is told
  abbrev does : ℕ → Bool
  does = is_culprit (told c.args.limit) (told c.args.khz) (told c.args.nb_subfr) c.args.s all

  test : does c.loop-k.k ≡ c.is_culprit.result
  unfolding recorded_at
  test =
      culprit_is frame c.args.frames.now.records.now _ _ _ c.args.s c.loop-k.k c.loop-k-test.true (passes_told _ _ _ c.ranges.limit c.ranges.khz c.ranges.nb_subfr c.args.s all ∙ c.requires)
      ∙ sym (c.is_culprit.ensures ∙ (λ i. was_received (recorded_in (c.record-record.ensures i)) && passes (told c.args.limit) (told c.args.khz) (told c.args.nb_subfr) (c.loop-k.invariant.0 i) (lost ∷ map frame (take_rest c.args.frames.now.records.now (c.loop-k.k + 1) i))))

pub loop-k-init : goal.loop-k-init
loop-k-init c =
    (sym (state_first _ _ _ c.args.s (map (recorded_at c.args.frames.now.bytes.now) c.args.frames.now.records.now)), first-start _ (length c.args.frames.now.records.now))

pub record-record-requires : goal.record-record-requires
record-record-requires c = c.args.frames.now.inside c.loop-k.k

pub invariant_of-behind : goal.invariant_of-behind
invariant_of-behind c =
    record { inside = rw (take_rest c.args.frames.now.records.now (c.loop-k.k + 1)) (behind-lies c.args.frames.now.bytes.now c.args.frames.now.records.now (c.loop-k.k + 1) c.args.frames.now.inside) }

pub returns-then-is_culprit : goal.returns-then-is_culprit
returns-then-is_culprit c =
    let b = (goal.at.returns-then-is_culprit c).After-is_culprit in
    let n = length c.args.frames.now.records.now in
    sym (c.loop-k.invariant.1 ∙ first_here (does b) c.loop-k.k n c.loop-k-test.true (test b ∙ c.if-is_culprit.true))
    ∙ ap (λ f. first_from f 0 n) (culprit_told _ _ _ c.ranges.limit c.ranges.khz c.ranges.nb_subfr c.args.s (all b))

pub loop-k-preserved : goal.loop-k-preserved
unfolding sound_of recorded_at
loop-k-preserved c =
    let b = (goal.at.loop-k-preserved c).After-is_culprit in
    let g = c.loop-k.invariant.0 in
    let n = c.args.frames.now.records.now in (
      ap (λ (t : Sound). t.state) c.frame_sound-t.ensures ∙ (λ j. (sound_of (g j) (call_of (told c.args.khz) (told c.args.nb_subfr) (recorded_in (c.record-record.ensures j)))).state)
          ∙ state_on (frame b) n (told c.args.limit) _ _ c.args.s c.loop-k.k c.loop-k-test.true,
      c.loop-k.invariant.1 ∙ first_later (does b) c.loop-k.k (length n) c.loop-k-test.true (test b ∙ c.if-is_culprit.false),
    )

pub returns : goal.returns
returns c =
    let xs = map (recorded_at c.args.frames.now.bytes.now) c.args.frames.now.records.now in
    let n = length c.args.frames.now.records.now in
    let f = is_culprit (told c.args.limit) (told c.args.khz) (told c.args.nb_subfr) c.args.s xs in
    sym (c.loop-k.invariant.1 ∙ ap (λ (k : ℕ). first_from f k (n - k)) (le_antisymm c.loop-k.auto.k-end c.loop-k-test.false) ∙ first-none f n)
    ∙ ap (λ g. first_from g 0 n) (culprit_told _ _ _ c.ranges.limit c.ranges.khz c.ranges.nb_subfr c.args.s xs)
