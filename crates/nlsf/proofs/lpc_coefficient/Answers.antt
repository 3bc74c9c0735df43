use borrow.Author.Tests.{lt-ltb, le-ltb}
use lib.IntN.{◌+ℤ◌}
use mir.Syntax.{w32}
use Rattle.word.proofs.Words.{wrap_neg, got}
use Rattle.nlsf.specs.Lines.{even_term, odd_term, lpc_coefficient}
use Rattle.nlsf.proofs.lpc_coefficient.Goals as goal

pub returns-then-i-d : goal.returns-then-i-d
unfolding lpc_coefficient
returns-then-i-d c =
    let s = c.args in
    rw (
      got w32 c.neg32.type_inv c.neg32.ensures,
      got w32 c.add32.type_inv c.add32.ensures,
      got w32 c.odd_term.type_inv c.odd_term.ensures,
      got w32 c.even_term.type_inv c.even_term.ensures,
      wrap_neg w32 (odd_term s.q.now s.i +ℤ even_term s.p.now s.i),
      lt-ltb _ _ (rw c.size-d.ensures at c.if-i-d.true),
    )

pub returns-else-i-d : goal.returns-else-i-d
unfolding lpc_coefficient
returns-else-i-d c =
    rw (
      got w32 c.sub32.type_inv c.sub32.ensures,
      got w32 c.odd_term-else-i-d.type_inv c.odd_term-else-i-d.ensures,
      got w32 c.even_term-else-i-d.type_inv c.even_term-else-i-d.ensures,
      c.size-d.ensures,
      le-ltb _ _ (rw c.size-d.ensures at c.if-i-d.false),
    )
