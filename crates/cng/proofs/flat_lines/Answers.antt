use mathlib.Core.Path.{refl}
use borrow.Author.Rules.{rules}
use lib.ListN.{take}
use mir.Syntax.{w16}
use Rattle.word.specs.Tabulate.{tabulate}
use Rattle.word.proofs.Words.{got}
use Rattle.sigproc.proofs.Fill.{turn}
use Rattle.shape.specs.Order.{size}
use Rattle.cng.specs.Noise.{flat_line}
use Rattle.cng.proofs.flat_lines.Goals as goal

pub loop-i-init : goal.loop-i-init
unfolding tabulate
loop-i-init c = (search rules, refl)

pub loop-i-preserved : goal.loop-i-preserved
loop-i-preserved c =
    let s = c.args in (
      search rules,
      turn (take c.size.result s.lines.now) (flat_line (size s.order)) c.loop-i.i c.loop-i.line-items _ c.loop-i-test.true c.loop-i.invariant.1 (got w16 c.flat_line.type_inv c.flat_line.ensures),
    )
