use Rattle.std.proofs.Common.{refl, ◌∙◌}
use mir.Facts.{to_z-of_z}
use Rattle.std.proofs.lemmas.List.{reverse-reverse}
use Rattle.std.proofs.lemmas.Iterator.Adapters.{YieldsList-from_rev_slice}
use Rattle.std.proofs.lemmas.Iterator.Consumers.{YieldsList-end}
use Rattle.recording.specs.Frames.{recorded_at, described_all}
use Rattle.recording.proofs.Back.{back_more}
use Rattle.recording.proofs.described_all.Goals as goal

pub loop-i-init : goal.loop-i-init
unfolding described_all
loop-i-init c = refl

pub loop-i-preserved : goal.loop-i-preserved
unfolding described_all recorded_at
loop-i-preserved c =
    rw (back_more c.loop-i.yielded c.in-Some.i, c.earlier-worst.ensures, c.described.ensures, c.record.ensures, c.loop-i.invariant)

pub returns : goal.returns
returns c =
    let e = YieldsList-end (YieldsList-from_rev_slice c.args.frames.now.records.now cc) c.loop-i.yielded _ c.loop-i.yielded_by _ _ c.in-None.is c.next.ensures.steps in
    c.loop-i.invariant ∙ rw (e.0, reverse-reverse c.args.frames.now.records.now, to_z-of_z c.ranges.khz, to_z-of_z c.ranges.nb_subfr)
