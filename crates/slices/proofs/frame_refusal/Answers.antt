use mathlib.Core.Path.{◌∙◌}
use mir.Syntax.{w32}
use Rattle.word.proofs.Words.{kept}
use Rattle.refusal.specs.First.{first_of}
use Rattle.judge.specs.Rows.{frame_rows}
use Rattle.slices.specs.Whole.{refusal_in}
use Rattle.slices.proofs.frame_refusal.Goals as goal

pub returns : goal.returns
unfolding refusal_in
returns c =
    let n = c.subframes-subframes in
    let r = c.rate-rate in
    let l = c.lines-lines in
    let d = c.control-c in
    let f = c.frame-f in
    let s = c.state-s in
    let a = c.args in
    let khz = kept w32 _ r.type_inv ∙ r.ensures in
    let nb = kept w32 _ n.type_inv ∙ n.ensures in
    c.frame.ensures
    ∙ λ i. first_of (frame_rows (khz i) (nb i) (s.ensures i) (f.ensures i) (d.ensures i) (l.ensures i) a.pulses a.output)
