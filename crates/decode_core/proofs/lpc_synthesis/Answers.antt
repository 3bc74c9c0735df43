use Prim.Native.Nat.{ℕ, ◌+◌, ◌-◌}
use mathlib.Core.Path.{◌≡◌, ap, ◌∙◌}
use native.Mathlib.Omega.{arith}
use lib.ListN.{length, take, drop, length-drop}
use lib.Seq.{take_all, length-take-le}
use mir.Facts.{to_z-of_z}
use Rattle.shape.specs.Order.{size}
use Rattle.sigproc.specs.Synthesis.{synthesis}
use Rattle.sigproc.proofs.Filter.{synth_length}
use Rattle.decode_core.proofs.lpc_synthesis.Goals as goal

pub returns : goal.returns
returns c =
    let s = c.args.signal.now in
    let n = length c.args.xq.now in
    let row = c.args.row.now in
    let x = c.synthesis.new.buf in
    let e : length s - 16 ≡ n = omega (arith, c.requires) in
    let y : x ≡ synthesis (take 16 s) (drop 16 s) row (size c.args.order) n = c.synthesis.ensures ∙ ap (synthesis (take 16 s) (drop 16 s) row (size c.args.order)) e in
    let l : length x ≡ 16 + n = ap length y ∙ synth_length (take 16 s) (drop 16 s) row (size c.args.order) n ∙ ap (λ (m : ℕ). m + n) (length-take-le 16 s (omega (arith, c.requires))) in
    let k : length x - 16 ≡ n = omega arith in
    let t : take (length x - 16) (drop 16 x) ≡ drop 16 x = take_all (length x - 16) (drop 16 x) (simp length-drop (omega arith)) in
    (c.keep.ensures ∙ (rw (k, y)), rw (c.scale_out.ensures, to_z-of_z c.ranges.gain, t, y))
