use mathlib.Core.Path.{◌≡◌}
use mathlib.Core.List.{List}
use Prim.Native.Nat.{ℕ}
use native.Mathlib.Omega.{arith}
use lib.ListN.{length, replicate}
use mir.Syntax.{w16}
use Rattle.le.specs.Bytes.{packed}
use Rattle.le.proofs.Places.{with-whole}
use Rattle.le.proofs.Packing.{length-packed, packed_all}
use borrow.Author.Rules.{rules}
use Rattle.stream.proofs.samples_bytes.Goals as goal

pub returns : goal.returns
returns c =
    let x = c.args.samples.now in
    let l : length x ≡ 320 = search rules in
    let z : List ℕ = replicate 640 0 in
    rw (c.put_words.ensures, packed_all w16 x 320 l) (with-whole z (packed w16 x 320) (omega (arith, length-packed w16 x 320)))
