use Prim.Native.Nat.{◌*◌, ◌-◌, ◌≤◌, ◌<◌}
use mathlib.Core.Path.{◌≡◌}
use lib.ListN.{length, take}
use Rattle.chain.specs.Chain.{records_in, chain_from, chain_of, padded}
use Rattle.chain.proofs.chain.Given as goal

abbrev pub invariant-loop-k : goal.invariant-loop-k
invariant-loop-k l =
    (l.n ≡ records_in l.bytes) × (l.n ≤ 60) × (1024 * l.n ≤ length l.bytes) × (l.at < l.n) × (l.k < l.n) × (length l.records ≡ 60) × (l.records ≡ padded (take l.k l.records))
    × (chain_of l.bytes ≡ chain_from l.bytes (l.n - 1 - l.k) (take l.k l.records) l.at)

abbrev pub decreases-loop-k : goal.decreases-loop-k
decreases-loop-k l = l.n - l.k
