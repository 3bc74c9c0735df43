use Rattle.std.proofs.Common.{◌≤◌, length, take}
use Rattle.std.specs.Io.KnownBytes.{Consumes}
use Rattle.input.proofs.read_full.Given as goal

-- what was read stands in the buffer
abbrev pub invariant-loop : goal.invariant-loop
invariant-loop g l =
    (l.n ≤ length l.buffer) × Consumes (g.R.Read.remaining l.fn.input) (g.R.Read.remaining l.input) (take l.n l.buffer)
