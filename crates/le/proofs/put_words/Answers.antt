use Rattle.std.proofs.Common.{refl, sym, ap, arith, rules}
use Rattle.le.proofs.Places.{with_none}
use Rattle.le.proofs.Packing.{words_turn}
use Rattle.le.proofs.put_words.Goals as goal

pub loop-i-init : goal.loop-i-init
loop-i-init g c = record { size = refl; stored = sym (with_none c.args.to.now c.args.at) }

pub loop-i-preserved : goal.loop-i-preserved
loop-i-preserved g c =
    let a = c.args in
    let l = c.loop-i in
    let x = c.index-numbers-i in
    let e = ap g.T.Word.bytes x.is in
    record {
      size = search rules;
      stored = rw (c.put.ensures, c.SIZE.ensures, l.invariant.stored, e)
          (words_turn g.T.Word.bytes g.T.Word.SIZE g.met.T.Word.sized a.to.now a.at a.numbers.now l.i x.result (omega arith) (search rules));
    }
