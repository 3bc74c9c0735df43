use Prim.Native.Nat.{◌*◌}
use native.Mathlib.Nat.{add-sub_cancel_left}
use borrow.Author.Rules.{rules}
use Rattle.cng.proofs.Places.{moved}
use Rattle.cng.proofs.moved_in.Goals as goal

pub returns : goal.returns
returns c =
    let a = c.args in
    rw (c.copy_at-2.ensures, c.copy_at.ensures, add-sub_cancel_left (a.k * a.l) a.l)
    (moved a.held.now a.exc.now a.l a.n a.k (search rules) (search rules) c.requires.2 c.requires.1 c.requires.0)
