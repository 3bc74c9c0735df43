use Rattle.std.proofs.Common.{◌≡◌, ◌+◌, ◌-◌, length, get_or, pos}
use Rattle.macros.specs.Fixed.{smlawb}
use Rattle.sigproc.specs.Synthesis.{prediction}
use Rattle.sigproc.proofs.prediction.Given as goal

-- the sum so far is the prediction but for the newest sample
abbrev pub invariant-loop-j : goal.invariant-loop-j
invariant-loop-j l =
    smlawb l.sum (get_or l.s (l.at - 1) (pos 0)) (get_or l.a 0 (pos 0)) ≡ prediction l.s l.a (length l.a) l.at (l.j + 1)
