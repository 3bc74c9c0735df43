use Rattle.std.proofs.Common.{ℕ, ◌≤◌, length, take, sym, subst, arith, rules}
use Rattle.std.specs.Io.KnownBytes.{Consumes}
use Rattle.input.proofs.Taking.{filled, part_taken, part_room, none_taken}
use Rattle.input.proofs.read_full.Goals.{in-Ok, in-Err}
use Rattle.input.proofs.read_full.Goals as goal

pub loop-preserved : goal.loop-preserved
loop-preserved g c =
    let b = c.loop.buffer in
    let p = c.read.new.buf in
    let n = c.loop.invariant in
    let new = filled b p c.loop.n n.0 in
    let Kept : ℕ → Type 0 = λ m. (m ≤ length new) × Consumes (g.R.Read.remaining c.args.input.now) (g.R.Read.remaining c.read.new.self) (take m new) in
    elim c.match-read.branch [
      | in-Ok w ↦
          let k = w.in-Ok.ensures in
          subst Kept (sym w.n-is) (part_room b p _ n.0 _ k.bound.0, part_taken b p _ n.0 _ _ _ _ k.bound.0 n.1 k.bytes.0)
      | in-Err w ↦
          let k = w.in-Err.ensures in
          subst Kept (sym w.n-is) (omega (arith, part_room b p _ n.0 0 (search rules)), none_taken b p _ n.0 _ _ _ n.1 k.bytes)
    ]
