use Prim.Native.Nat.{ℕ}
use mathlib.Core.Path.{◌≡◌, sym, ap, ◌∙◌}
use mathlib.Core.Bool.{Bool, not}
use mathlib.Core.List.{List, [], ◌∷◌, map}
use lib.IntN.{ℤ, pos}
use mir.Facts.{to_z-of_z}
use Rattle.std.specs.Prelude.{Ok}
use Rattle.refusal.specs.First.{◌gives◌, first_of}
use Rattle.refusal.specs.Refusals.{code_of}
use Rattle.refusal.specs.declared.Refusal.TheVariants.{Limit}
use Rattle.refusal.proofs.Clear.{at_err, clear}
use Rattle.decoder.specs.Ranges.{within}
use Rattle.recording.specs.Frames.{rate_in, count_in, recorded_at, frames_in}
use Rattle.recording.specs.Reading.{read_of}
use Rattle.recording.specs.declared.Recording.{Recording}
use Rattle.playback.specs.Playback.{start_of}
use Rattle.recording.proofs.Accepted.{not_read, read-well, frames_count}
use Rattle.playback.proofs.Read.{rate-back, count-back, started, starts}
use Rattle.culprit.specs.Search.{passes, is_culprit, first_from}
use Rattle.single_loss.proofs.Answers.{refused, unread, out_of_range, passed_already, searched}
use Rattle.single_loss.proofs.single_loss.Goals.{In_ok-r, After-passes-loud}
use Rattle.single_loss.proofs.single_loss.Goals as goal

-- the recording is read
module _ (c : In_ok-r) where
  abbrev b : List ℕ
  b = c.args.bytes.now

  is : read_of b ≡ Ok c.in_ok-r.r
  is = sym c.read.ensures ∙ c.in_ok-r.was

-- the limit's row
row : (l m : ℤ) (t : Bool) → t ≡ within (pos 1) (pos 32767) l → l ≡ m → first_of ((not t gives Limit) ∷ []) ≡ first_of ((not (within (pos 1) (pos 32767) m) gives Limit) ∷ [])
row l m t e f = ap (λ (s : Bool). first_of ((not s gives Limit) ∷ [])) (e ∙ ap (within (pos 1) (pos 32767)) f)

-- the post is set up, and the call as recorded played
module _ (c : After-passes-loud) where
  abbrev p : In_ok-r
  p = (goal.at.After-passes-loud c).In_ok-r

  abbrev r : Recording
  r = c.in_ok-r.r

  start_is : c.in_ok-s.s ≡ start_of (b p)
  start_is = started (b p) r (is p) c.in_ok-s.s (sym c.set_up_for.ensures ∙ c.in_ok-s.was)

  frames_are : map (recorded_at c.frames_in-frames.result.bytes.now) c.frames_in-frames.result.records.now ≡ frames_in (b p)
  frames_are = ap (λ d. map (recorded_at d) c.frames_in-frames.result.records.now) c.frames_in-frames.ensures.0 ∙ c.frames_in-frames.ensures.1

  in-range : first_of ((not (within (pos 1) (pos 32767) c.args.limit) gives Limit) ∷ []) ≡ Ok tt
  in-range = sym (c.refuse_if.ensures ∙ row _ c.args.limit c.within.result c.within.ensures (to_z-of_z c.ranges.limit)) ∙ c.in_ok-refuse_if.was

  as_recorded : c.passes-loud.result ≡ passes c.args.limit (rate_in (b p)) (count_in (b p)) (start_of (b p)) (frames_in (b p))
  as_recorded =
      let l = to_z-of_z c.ranges.limit in
      c.passes-loud.ensures ∙ λ i. passes (l i) (rate-back (b p) r (is p) i) (count-back (b p) r (is p) i) (start_is i) (frames_are i)

pub returns-in_err-r : goal.returns-in_err-r
returns-in_err-r c =
    let b = c.args.bytes.now in
    at_err _ _ c.from_residual.ensures.1 ∙ refused b c.args.limit (unread b c.args.limit (not_read b (sym c.read.ensures ∙ c.in_err-r.was)))

pub returns-in_err-refuse_if : goal.returns-in_err-refuse_if
returns-in_err-refuse_if c =
    let b = c.args.bytes.now in
    let e = is (goal.at.returns-in_err-refuse_if c).In_ok-r in
    at_err _ _ c.from_residual-in_err-refuse_if.ensures.1
    ∙ refused b c.args.limit (out_of_range b c.args.limit (read-well b c.in_ok-r.r e) (sym (c.refuse_if.ensures ∙ row _ c.args.limit c.within.result c.within.ensures (to_z-of_z c.ranges.limit)) ∙ c.in_err-refuse_if.was))

pub returns-in_err-s : goal.returns-in_err-s
returns-in_err-s c =
    absurd (starts c.args.bytes.now c.in_ok-r.r (is (goal.at.returns-in_err-s c).In_ok-r) (sym c.set_up_for.ensures ∙ c.in_err-s.was))

pub frames_in-frames-requires : goal.frames_in-frames-requires
frames_in-frames-requires c = is (goal.at.frames_in-frames-requires c).In_ok-r

pub returns-in_err-refuse_if-2 : goal.returns-in_err-refuse_if-2
returns-in_err-refuse_if-2 c =
    let b = c.args.bytes.now in
    let k = (goal.at.returns-in_err-refuse_if-2 c).After-passes-loud in
    let e = is (goal.at.returns-in_err-refuse_if-2 c).In_ok-r in
    at_err _ _ c.from_residual-in_err-refuse_if-2.ensures.1
    ∙ refused b c.args.limit (passed_already b c.args.limit (read-well b c.in_ok-r.r e) (in-range k) (ap (λ (t : Bool). first_of ((t gives Limit) ∷ [])) (sym (as_recorded k)) ∙ sym c.refuse_if-2.ensures ∙ c.in_err-refuse_if-2.was))

pub first_culprit-found-requires : goal.first_culprit-found-requires
first_culprit-found-requires c =
    let q : first_of ((c.passes-loud.result gives Limit) ∷ []) ≡ Ok tt = sym c.refuse_if-2.ensures ∙ c.in_ok-refuse_if-2.was in
    sym c.passes-loud.ensures ∙ (clear ((c.passes-loud.result gives Limit) ∷ []) (ap code_of q)).0

pub returns : goal.returns
returns c =
    let b = c.args.bytes.now in
    let l = to_z-of_z c.ranges.limit in
    let k = (goal.at.returns c).After-passes-loud in
    let e = is (goal.at.returns c).In_ok-r in
    let r = c.in_ok-r.r in
    let n = c.frames_in-frames.ensures.2 ∙ frames_count b r e in
    ap Ok (c.first_culprit-found.ensures ∙ λ i. first_from (is_culprit (l i) (rate-back b r e i) (count-back b r e i) (start_is k i) (frames_are k i)) 0 (n i))
    ∙ searched b c.args.limit (read-well b r e) (in-range k) (ap (λ (t : Bool). first_of ((t gives Limit) ∷ [])) (sym (as_recorded k)) ∙ sym c.refuse_if-2.ensures ∙ c.in_ok-refuse_if-2.was)
