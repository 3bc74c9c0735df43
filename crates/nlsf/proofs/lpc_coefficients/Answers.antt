use mathlib.Core.Path.{refl}
use native.Mathlib.Numerals.{add-one}
use borrow.Author.Rules.{rules}
use lib.IntN.{pos}
use lib.ListN.{take, replicate}
use lib.Seq.{length-take-le}
use mir.Syntax.{w32}
use Rattle.word.specs.Tabulate.{tabulate}
use Rattle.word.proofs.Lists.{tabulate-more}
use Rattle.word.proofs.Words.{got}
use Rattle.shape.specs.Order.{size}
use Rattle.shape.proofs.Orders.{size_high}
use Rattle.nlsf.specs.Lines.{lpc_coefficient}
use Rattle.nlsf.proofs.lpc_coefficients.Goals as goal

pub loop-i-init : goal.loop-i-init
unfolding tabulate
loop-i-init c =
    let o = c.args.order in
    rw c.size.ensures (length-take-le (size o) (replicate 16 (pos 0)) (size_high o), refl)

pub loop-i-preserved : goal.loop-i-preserved
loop-i-preserved c =
    let s = c.args in
    let d = size s.order in (
      search rules,
      rw (got w32 c.lpc_coefficient.type_inv c.lpc_coefficient.ensures, c.loop-i.invariant.1, add-one)
          (tabulate-more (take d (replicate 16 (pos 0))) (lpc_coefficient s.p.now s.q.now d) c.loop-i.i (rw c.size.ensures at c.loop-i-test.true)),
    )
