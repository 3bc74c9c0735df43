use Rattle.std.proofs.Common.{◌≡◌, ℕ, length, refl, ap, ◌∙◌, add-one, arith, rules}
use lib.Seq.{paste, paste-zero, paste-suc, take-length}
use Rattle.sigproc.specs.Place.{put_at}
use Rattle.sigproc.proofs.copy_at.Goals as goal

pub loop-i-init : goal.loop-i-init
loop-i-init g c = (refl, paste-zero c.args.dst.now c.args.at c.args.src.now)

pub loop-i-preserved : goal.loop-i-preserved
loop-i-preserved g c =
    let a = c.args in
    let l = c.loop-i in
    let x = c.index-src-i in
    (search rules, rw (l.invariant.1, x.is, add-one) (paste-suc a.dst.now a.at a.src.now l.i x.result (omega arith) (omega arith)))

pub returns : goal.returns
unfolding put_at
returns g c =
    let a = c.args in
    let e : c.loop-i.i ≡ length a.src.now = search rules in
    c.loop-i.invariant.1 ∙ ap (λ (n : ℕ). paste a.dst.now a.at a.src.now n) e ∙ rw (take-length a.src.now) refl
