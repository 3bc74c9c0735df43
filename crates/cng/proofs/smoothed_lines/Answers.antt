use Prim.Native.Nat.{◌<◌}
use mathlib.Core.Path.{◌≡◌, refl, ap, ◌∙◌}
use native.Mathlib.Nat.{le_antisymm}
use native.Mathlib.Omega.{arith}
use borrow.Author.Rules.{rules}
use lib.IntN.{ℤ, pos}
use lib.ListN.{length, get_or, take}
use lib.Seq.{length-take-le, get_or-take}
use mir.Syntax.{w16}
use Rattle.word.specs.Tabulate.{tabulate}
use Rattle.word.proofs.Lists.{length-tabulate, rest_at, tabulate_cong}
use Rattle.word.proofs.Words.{kept, got}
use Rattle.sigproc.proofs.Fill.{turn, filled}
use Rattle.shape.proofs.Orders.{size_high}
use Rattle.cng.specs.Noise.{smoothed_line, smoothed_lines}
use Rattle.cng.proofs.smoothed_lines.Invariants.{line}
use Rattle.cng.proofs.smoothed_lines.Goals as goal

pub loop-i-init : goal.loop-i-init
unfolding tabulate
loop-i-init c = (search rules, refl)

pub loop-i-preserved : goal.loop-i-preserved
loop-i-preserved c =
    let s = c.args in
    let front = take c.size.result s.held.now in
    let i = c.loop-i.i in
    let n : i < length front = search rules in (
      search rules,
      turn front (line front s.lines) i c.loop-i.line-items _ n c.loop-i.invariant.1
          (rw (
            got w16 c.smoothed_line.type_inv c.smoothed_line.ensures,
            kept w16 (get_or c.loop-i.line-items i (pos 0)) (search rules),
            kept w16 (get_or s.lines i (pos 0)) (search rules),
            c.loop-i.invariant.1,
            rest_at (tabulate i _) front i (length-tabulate i _) n,
          )),
    )

pub returns : goal.returns
unfolding smoothed_lines
returns c =
    let s = c.args in
    let held = s.held.now in
    let d = c.size.result in
    let front = take d held in
    let sixteen : length held ≡ 16 = search rules in
    let n : length front ≡ d = length-take-le _ _ (rw (sixteen, c.size.ensures) (size_high s.order)) in
    let e : c.loop-i.i ≡ d = le_antisymm c.loop-i.invariant.0 c.loop-i-test.false ∙ n in
    let f : tabulate d (line front s.lines) ≡ tabulate d (line held s.lines) =
    tabulate_cong d _ _ (λ i k. ap (λ (x : ℤ). smoothed_line x (get_or s.lines i (pos 0))) (get_or-take d held i (pos 0) k)) in
    rw (c.loop-i.invariant.1, e, filled (tabulate d (line front s.lines)) front d (omega arith), f, c.size.ensures) refl
