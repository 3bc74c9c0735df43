use Prim.Native.Nat.{◌+◌, ◌≤◌}
use native.Mathlib.Omega.{arith}
use lib.ListN.{length}
use Rattle.decode_core.proofs.Whiten.{in_view, synthesised-words}
use Rattle.decode_core.proofs.Past.ltp_synthesis.Goals as goal

pub invariant_of-self : goal.invariant_of-self
invariant_of-self c =
    let p = c.self.inside in
    let v = c.self.invariant.0 in
    let l = in_view p.q15 p.idx c.self.view_is v c.self.invariant.1 in
    let h : p.idx + length c.args.res.now ≤ 640 = omega (arith, c.requires.2) in
    (rw c.ltp_synthesis.ensures.0 (synthesised-words p.q15 c.args.taps c.args.lag p.idx c.args.res.now v h), omega (arith, c.ltp_synthesis.auto.res))
