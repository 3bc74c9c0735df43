use mathlib.Core.Path.{refl}
use borrow.Author.Tests.{lt-ltb, le-ltb}
use borrow.Author.Rules.{rules}
use lib.ListN.{length}
use mir.Syntax.{w32}
use Rattle.word.proofs.Words.{kept, got}
use Rattle.post_filters.specs.Calls.{called, given}
use Rattle.post_filters.proofs.Ends.{set-one}
use Rattle.post_filters.proofs.put_one.Goals as goal

pub returns-then-to-lt1 : goal.returns-then-to-lt1
unfolding called
returns-then-to-lt1 c = rw (lt-ltb (length c.args.to.now) 1 c.if-to-lt1.true) refl

pub returns-in-Ok : goal.returns-in-Ok
unfolding called given
returns-in-Ok c =
    let lent = c.args.to.now in
    rw (le-ltb (length lent) 1 c.if-to-lt1.false, c.in-Ok.is, kept w32 c.in-Ok.x (search rules), set-one lent c.in-Ok.x c.if-to-lt1.false) refl

pub returns-in-Err : goal.returns-in-Err
unfolding called given
returns-in-Err c =
    let n = got w32 c.code.type_inv c.code.ensures in
    rw (le-ltb (length c.args.to.now) 1 c.if-to-lt1.false, c.in-Err.is, n) refl
