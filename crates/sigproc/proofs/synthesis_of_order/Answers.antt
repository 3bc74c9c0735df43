use Rattle.std.proofs.Common.{◌≡◌, suc, ◌+◌, get_or, pos, sym, refl, add-one, arith, take-append-drop, w32, rules}
use Rattle.word.proofs.Words.{kept}
use Rattle.sigproc.specs.Synthesis.{synthesis}
use Rattle.sigproc.proofs.Coefficients.{prediction_first}
use Rattle.sigproc.proofs.InPlace.{synthesis-turn}
use Rattle.sigproc.proofs.synthesis_of_order.Goals as goal

pub loop-i-init : goal.loop-i-init
unfolding synthesis
loop-i-init g c = (search rules, search rules, refl, sym (take-append-drop 16 c.args.buf.now))

pub loop-i-preserved : goal.loop-i-preserved
loop-i-preserved g c =
    let a = c.args in
    let e : 16 + (c.loop-i.i + 1) ≡ suc (16 + c.loop-i.i) = omega arith in (
      search rules,
      search rules,
      search rules,
      rw (
        e,
        add-one,
        kept w32 _ c.synthesised.type_inv,
        c.synthesised.ensures,
        kept w32 (get_or c.loop-i.buf (16 + c.loop-i.i) (pos 0)) c.synthesised-arg-1.given,
        kept w32 _ c.prediction.type_inv,
        c.prediction.ensures,
        prediction_first c.loop-i.buf a.a.now g.row.ORDER (16 + c.loop-i.i) (omega arith),
      )
          (synthesis-turn a.buf.now a.a.now g.row.ORDER c.loop-i.i c.loop-i.buf (omega arith) c.loop-i.invariant.3),
    )
