use Prim.Native.Nat.{◌-◌}
use mathlib.Core.Path.{◌≡◌, refl, ◌∙◌}
use mathlib.Core.List.{◌++◌}
use native.Mathlib.Omega.{arith}
use borrow.Author.Rules.{rules}
use lib.IntN.{pos}
use lib.ListN.{length, get_or, take, drop}
use mir.Syntax.{w32}
use mir.Val.{to_z, of_z}
use mir.Facts.{to_z-of_z}
use Rattle.word.specs.Tabulate.{tabulate}
use Rattle.word.proofs.Words.{kept, got}
use Rattle.nlsf.specs.Lines.{times_factor}
use Rattle.nlsf.proofs.Parts.{back_start, back_more, back_ends, front_at}
use Rattle.nlsf.proofs.Polynomials.{term_front}
use Rattle.nlsf.proofs.times_factor.Goals as goal

pub loop-n-init : goal.loop-n-init
loop-n-init c =
    (c.requires, search rules, refl, back_start (times_factor (to_z w32 (of_z w32 c.args.f)) c.args.p.now) c.args.p.now)

pub loop-n-preserved : goal.loop-n-preserved
loop-n-preserved c =
    let p = c.args.p.now in
    let n = c.loop-n.n in
    let f = to_z w32 (of_z w32 c.args.f) in
    let t = drop n (tabulate (length p) (times_factor f p)) in (
      search rules,
      search rules,
      search rules,
      rw (got w32 c.poly_term.type_inv c.poly_term.ensures, c.loop-n.invariant.3, term_front f p t (n - 1) n (omega arith) c.loop-n.invariant.1)
          (back_more (times_factor f p) p n (n - 1) (omega arith) (omega arith)),
    )

pub returns : goal.returns
unfolding times_factor
returns c =
    let p = c.args.p.now in
    let f = c.args.f in
    let n : c.loop-n.n ≡ 2 = omega arith in
    let t = times_factor f p in
    let u : c.loop-n.p ≡ take 2 p ++ drop 2 (tabulate (length p) t) = rw (n, to_z-of_z c.ranges.f) at c.loop-n.invariant.3 in
    rw (got w32 c.sub32.type_inv c.sub32.ensures, kept w32 (get_or c.loop-n.p 1 (pos 0)) c.sub32-arg-1.given, u, front_at p (drop 2 (tabulate (length p) t)) 1 2 (omega arith) c.requires, to_z-of_z c.ranges.f)
    (back_more t p 2 1 refl c.requires ∙ back_ends t p refl (omega (arith, c.requires)))
