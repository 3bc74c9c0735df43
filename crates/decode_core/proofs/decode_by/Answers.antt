use Rattle.std.proofs.Common.{◌≡◌, ℕ, ap, subst, ◌∙◌, ◌*◌, ◌++◌, List, ℤ, take, drop, rules}
use lib.Seq.{take_at}
use Rattle.excitation.specs.Excitation.{offset_q14, excitation}
use Rattle.excitation.proofs.Samples.{length-excitation}
use Rattle.decode_core.specs.Core.{subframes}
use Rattle.decode_core.specs.Ready.{begin, Left}
use Rattle.decode_core.proofs.decode_by.Goals as goal

pub returns : goal.returns
returns c =
    let a = c.args in
    let n : ℕ = a.f.subfr_length * a.f.nb_subfr in
    let o = offset_q14 a.f.voiced a.q.quant_offset_type in
    let u = c.synthesise in
    let e : c.excite.new.exc ≡ excitation o a.pulses.now a.q.seed n = search rules in
    let t : take n (c.excite.new.exc ++ drop n a.exc.now) ≡ excitation o a.pulses.now a.q.seed n =
    ap (λ (x : List ℤ). take n (x ++ drop n a.exc.now)) e ∙ take_at _ (drop n a.exc.now) n (length-excitation o a.pulses.now a.q.seed n) in (
      ap (λ (x : List ℤ). x ++ drop n a.exc.now) e,
      subst (λ (y : List ℤ). Left (subframes a.f a.rows y (begin a.f a.b a.memory.now a.out_buf.now) a.f.nb_subfr) u.result u.new.memory u.new.out_buf u.new.xq (drop n a.xq.now)) t u.ensures,
    )
