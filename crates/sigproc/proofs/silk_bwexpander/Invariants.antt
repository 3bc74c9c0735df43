use Rattle.std.proofs.Common.{◌≡◌, take}
use Rattle.sigproc.specs.Expand.{factor, bwexpander}
use Rattle.sigproc.proofs.silk_bwexpander.Given as goal

abbrev pub invariant-loop-a : goal.invariant-loop-a
invariant-loop-a l = (l.f ≡ factor l.chirp_q16 l.a-index) × (l.a-items ≡ bwexpander l.chirp_q16 (take l.d l.fn.ar) l.a-index)
