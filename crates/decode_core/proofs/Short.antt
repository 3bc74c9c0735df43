-- The memory and the samples of a subframe.
use Prim.Native.Nat.{◌+◌, ◌≤◌}
use mathlib.Core.Path.{◌≡◌, ◌∙◌}
use mathlib.Core.List.{List, ◌++◌, map, append-nil}
use native.Mathlib.Omega.{arith}
use lib.IntN.{ℤ}
use lib.ListN.{length, take, drop, length-append, length-drop, drop_of_length-le}
use lib.Seq.{take_at, length-take-le}
use Rattle.std.proofs.lemmas.List.{length-map}
use Rattle.sigproc.specs.Place.{put_at}

-- the memory, mapped, and what is stored behind it
pub loaded : (g : ℤ → ℤ) (s e : List ℤ) → length s ≡ 16 + length e → put_at (map g (take 16 s) ++ drop 16 s) 16 e ≡ map g (take 16 s) ++ e
unfolding put_at
loaded g s e h =
    let m = map g (take 16 s) in
    let l : length m ≡ 16 = length-map (take 16 s) g ∙ length-take-le 16 s (omega arith) in
    let k : length (m ++ drop 16 s) ≤ 16 + length e = simp (length-append, length-drop) (omega arith) in
    rw (take_at m (drop 16 s) 16 l, drop_of_length-le (m ++ drop 16 s) {i = 16 + length e} k) (append-nil (m ++ e))
