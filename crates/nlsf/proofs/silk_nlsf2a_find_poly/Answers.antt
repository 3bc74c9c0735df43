use Prim.Native.Nat.{◌+◌, ◌*◌, ◌<◌, ◌≤◌}
use mathlib.Core.Path.{◌≡◌, ◌∙◌}
use mathlib.Core.List.{List}
use native.Mathlib.Omega.{arith}
use borrow.Author.Rules.{rules}
use lib.IntN.{ℤ, pos}
use lib.ListN.{length, get_or, set, take, drop, replicate, length-set, get_or-append}
use lib.Seq.{length-take-le, length_front}
use mir.Syntax.{w32}
use mir.Val.{to_z, of_z}
use Rattle.word.proofs.Words.{kept, got}
use Rattle.nlsf.specs.Lines.{poly}
use Rattle.nlsf.proofs.Polynomials.{length-poly, poly-turn}
use Rattle.nlsf.proofs.silk_nlsf2a_find_poly.Goals.{After-p-1}
use Rattle.nlsf.proofs.silk_nlsf2a_find_poly.Goals as goal

-- the lent part, with the mirror image's coefficient at its end
abbrev stored : (c : After-p-1) → List ℤ
stored c = let l = c.loop-k in set l.p (l.k + 2) (to_z w32 (of_z w32 (get_or l.p l.k (pos 0))))

room : (c : After-p-1) → let n = c.loop-k.k + 3 in (n ≤ length (stored c)) × (length (take n (stored c)) ≡ n) × (length (stored c) ≡ 9)
room c =
    let l = c.loop-k in
    let e : length (stored c) ≡ 9 = length-set l.p (l.k + 2) (to_z w32 (of_z w32 (get_or l.p l.k (pos 0)))) ∙ l.invariant.2 in
    let h : l.k + 3 ≤ length (stored c) = omega arith in
    (h, length-take-le (l.k + 3) (stored c) h, e)

pub loop-k-init : goal.loop-k-init
unfolding poly
loop-k-init c =
    let s = c.args in (
      search rules,
      search rules,
      search rules,
      rw (got w32 c.neg32.type_inv c.neg32.ensures, kept w32 (get_or s.c.now s.s (pos 0)) c.neg32-arg-1.given),
    )

pub loop-k-preserved : goal.loop-k-preserved
loop-k-preserved c =
    let s = c.args in
    let z = replicate 9 (pos 0) in
    let k = c.loop-k.k in
    let q = poly s.c.now s.s k in
    let n : k + 2 < 9 = omega arith in (
      search rules,
      search rules,
      length_front (stored (goal.at.loop-k-preserved c).After-p-1) c.times_factor.new.p (k + 3) c.times_factor.auto.p ∙ (room (goal.at.loop-k-preserved c).After-p-1).2,
      rw (
        c.times_factor.ensures,
        (room (goal.at.loop-k-preserved c).After-p-1).1,
        kept w32 (get_or s.c.now (2 * k + 2 + s.s) (pos 0)) c.f-1.given,
        kept w32 (get_or c.loop-k.p k (pos 0)) c.p-1.given,
        c.loop-k.invariant.3,
        get_or-append q (drop (k + 2) z) (pos 0) k (rw (length-poly s.c.now s.s k) (omega arith)),
      ) (poly-turn s.c.now z s.s k n),
    )
