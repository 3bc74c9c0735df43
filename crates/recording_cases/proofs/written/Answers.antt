use Prim.Native.Nat.{◌+◌, ◌*◌, ◌≤◌}
use mathlib.Core.Path.{◌≡◌, sym, ◌∙◌}
use native.Mathlib.Omega.{arith}
use lib.ListN.{length}
use lib.Seq.{length-take-le}
use Rattle.recording.proofs.Accepted.{few}
use Rattle.recording_cases.proofs.written.Goals as goal

pub slice_bounds-summed-end : goal.slice_bounds-summed-end
slice_bounds-summed-end c =
    let n = few c.args.file.now c.in_ok-r.r (sym c.read.ensures ∙ c.in_ok-r.was) in
    let room : 1024 * (c.in_ok-r.r.frames + 1) ≤ length c.loop-k.to = omega arith in
    sym (length-take-le (1024 * (c.in_ok-r.r.frames + 1)) c.loop-k.to room)
