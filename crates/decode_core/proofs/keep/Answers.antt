use Prim.Native.Nat.{◌+◌, ◌-◌}
use mathlib.Core.Path.{◌≡◌, ◌∙◌}
use native.Mathlib.Omega.{arith}
use borrow.Author.Rules.{rules}
use lib.ListN.{length, take, drop, length-drop}
use lib.Seq.{take_all, take_at}
use Rattle.sigproc.specs.Place.{put_at}
use Rattle.decode_core.proofs.keep.Goals as goal

pub returns : goal.returns
unfolding put_at
returns c =
    let s = c.args.signal.now in
    let last = drop (length s - 16) s in
    let d : length last ≡ 16 = length-drop (length s - 16) s ∙ omega arith in
    let m : c.unwrap-last.result.now ≡ take 16 last = search rules in
    rw (c.copy_at.ensures, m, take_all 16 last (omega arith)) (take_at last (drop (0 + length last) s) 16 d)
