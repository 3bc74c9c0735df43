use Rattle.std.proofs.Common.{◌+◌, ◌-◌, length, drop, map, ap, ◌∙◌, arith, to_z-of_z}
use Rattle.std.proofs.lemmas.List.{take_rest}
use Rattle.word.proofs.Lists.{map-tabulate}
use Rattle.macros.specs.Fixed.{smulwb}
use Rattle.shape.specs.Order.{size}
use Rattle.sigproc.specs.Analysis.{residual}
use Rattle.sigproc.proofs.Stretch.{whitened}
use Rattle.sigproc.proofs.rewhiten.Goals as goal

pub returns : goal.returns
returns c =
    let a = c.args in
    let x = a.history.now in
    let d = size a.order in
    let y = c.silk_lpc_analysis_filter.new.out in
    let s = a.from - d in
    let n = s + (d + length a.to.now) - s in
    c.weigh.ensures
    ∙ (rw (c.size-d.ensures, to_z-of_z c.ranges.inverse)
    (ap (map (smulwb a.inverse)) (take_rest y d ∙ ap (drop d) (rw c.size-d.ensures at c.silk_lpc_analysis_filter.ensures)
    ∙ whitened x a.row.now s n d (length a.to.now) a.from (omega arith) (omega arith) (omega arith))
    ∙ map-tabulate (smulwb a.inverse) (λ t. residual x a.row.now d (a.from + t)) (length a.to.now)))
