use mathlib.Core.Path.{sym}
use borrow.Author.Rules.{rules}
use Rattle.std.proofs.Common.{subst}
use Rattle.stream.specs.Header.{Opened}
use Rattle.stream.proofs.Headers.{opened}
use Rattle.stream.proofs.Head.read.Goals as goal

pub returns-clause-bytes : goal.returns-clause-bytes
returns-clause-bytes g c = subst (Opened _ _) (sym c.read_header.ensures) (opened _ _ _ _ (search rules) c.in_ok-got.ensures.bytes)
