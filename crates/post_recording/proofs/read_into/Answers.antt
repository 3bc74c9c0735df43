use mathlib.Core.Path.{◌≡◌, refl, sym, ap, ◌∙◌}
use lib.ListN.{length}
use borrow.Author.Tests.{ltb-false}
use Rattle.std.specs.Prelude.{Ok}
use Rattle.refusal.proofs.Clear.{at_err, stays}
use Rattle.sigproc.specs.Place.{put_at}
use Rattle.recording.specs.Reading.{read_refusal, read_of}
use Rattle.recording.proofs.Accepted.{not_read, few}
use Rattle.post_recording.specs.Sizes.{HEAD}
use Rattle.post_recording.specs.Reading.{read_judged}
use Rattle.post_recording.proofs.Sizes.{too_short, enough, by_content}
use Rattle.post_recording.proofs.Told.{head_is, read_is}
use Rattle.post_recording.proofs.read_into.Goals.{In_ok-r}
use Rattle.post_recording.proofs.read_into.Goals as goal

-- the recording is read
is : (c : In_ok-r) → read_of c.args.bytes.now ≡ Ok c.in_ok-r.r
is c = sym c.read.ensures ∙ c.in_ok-r.was

pub returns-in_err-refuse_if : goal.returns-in_err-refuse_if
unfolding read_judged
returns-in_err-refuse_if c =
    let t = at_err _ _ c.from_residual.ensures.1 in
    (t ∙ sym (too_short c.refuse_if.ensures refl (read_refusal c.args.bytes.now) c.in_err-refuse_if.was), stays _ _ t)

pub returns-in_err-r : goal.returns-in_err-r
unfolding read_judged
returns-in_err-r c =
    let b = c.args.bytes.now in
    let t = at_err _ _ c.from_residual-in_err-r.ensures.1 in
    let j = by_content c.refuse_if.ensures refl (read_refusal b) c.in_ok-refuse_if.was ∙ not_read b (sym c.read.ensures ∙ c.in_err-r.was) in
    (t ∙ sym j, stays _ _ t)

pub put_head-requires : goal.put_head-requires
put_head-requires c =
    (few c.args.bytes.now c.in_ok-r.r (is (goal.at.put_head-requires c).In_ok-r), ltb-false (length c.args.head.now) HEAD (enough c.refuse_if.ensures refl c.in_ok-refuse_if.was))

pub returns : goal.returns
unfolding read_judged
returns c =
    let b = c.args.bytes.now in
    let e = is (goal.at.returns c).In_ok-r in (
      sym (by_content c.refuse_if.ensures refl (read_refusal b) c.in_ok-refuse_if.was ∙ read_is b c.in_ok-r.r e),
      c.put_head.ensures ∙ ap (put_at c.args.head.now 0) (head_is b c.in_ok-r.r e),
    )
