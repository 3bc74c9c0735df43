use Rattle.std.proofs.Common.{◌≡◌, ℕ, ◌+◌, ◌-◌, ◌*◌, ◌/◌, ◌%◌, ◌^◌, ◌<◌, [], length, get_or, pos, refl, ◌∙◌, ap, sym, le_antisymm, add-one, arith, w16}
use Rattle.std.proofs.lemmas.Bool.{eqb-true, eqb-false}
use Rattle.std.proofs.lemmas.List.{get_or-drop}
use Rattle.word.proofs.Words.{kept}
use Rattle.sigproc.specs.Energy.{square, pairs}
use Rattle.sigproc.proofs.Energies.{energy_even, energy_odd, more_le, chunk_at}
use Rattle.sigproc.proofs.energy_at.Goals.{After-square-in-loop-pair}
use Rattle.sigproc.proofs.energy_at.Goals as goal

pub loop-pair-init : goal.loop-pair-init
unfolding pairs
loop-pair-init c = record { total = refl; most = omega arith }

-- a sample of the pair is one of the slice
sample : (c : After-square-in-loop-pair) (j : ℕ) → j < 2 → get_or (get_or c.as_chunks.result.0.now c.loop-pair.pair-index []) j (pos 0) ≡ get_or c.args.x.now (2 * c.loop-pair.pair-index + j) (pos 0)
sample c j h =
    let x = c.args.x.now in
    rw c.as_chunks.ensures.front (chunk_at x (length x / 2) c.loop-pair.pair-index j (omega (arith, c.loop-pair-test.true, c.as_chunks.ensures.front_len)) h)

pub loop-pair-preserved : goal.loop-pair-preserved
unfolding pairs
loop-pair-preserved c =
    let a = c.args in
    let m = c.loop-pair.pair-index in
    let x = a.x.now in
    let q = square x (2 * m) + square x (2 * m + 1) in
    let z : 2 * m + 0 ≡ 2 * m = omega arith in
    let p : c.square.result + c.square-in-loop-pair.result ≡ q =
    rw (c.square.ensures.0, kept w16 _ c.square-arg-1.given, sample c 0 (omega arith), z, c.square-in-loop-pair.ensures.0, kept w16 _ c.square-arg-in-loop-pair-1.given, sample c 1 (omega arith)) in
    record {
      total = rw (add-one, p, c.loop-pair.invariant.total) (omega arith);
      most = rw add-one (omega (arith, more_le a.s (pairs x a.s m) q (2 ^ 31 * m) (2 ^ 31) c.loop-pair.invariant.most (omega arith)));
    }

pub returns-then-is_empty : goal.returns-then-is_empty
returns-then-is_empty c =
    let a = c.args in
    let x = a.x.now in
    let k = c.as_chunks.ensures in
    let n = eqb-true _ _ (sym c.is_empty.ensures ∙ c.if-is_empty.true) in
    let e : c.loop-pair.pair-index ≡ length x / 2 = le_antisymm c.loop-pair.auto.pair-index-end c.loop-pair-test.false ∙ k.front_len in
    rw (energy_even x a.s (sym k.back_len ∙ n), ← e) (c.loop-pair.invariant.total, omega (arith, c.loop-pair.invariant.most))

pub returns : goal.returns
returns c =
    let a = c.args in
    let x = a.x.now in
    let k = c.as_chunks.ensures in
    let o : length x % 2 ≡ 1 = omega (arith, k.back_len, eqb-false _ _ (sym c.is_empty.ensures ∙ c.if-is_empty.false)) in
    let e : c.loop-pair.pair-index ≡ length x / 2 = le_antisymm c.loop-pair.auto.pair-index-end c.loop-pair-test.false ∙ k.front_len in
    let q = square x (length x - 1) in
    let i : length x / 2 * 2 + 0 ≡ length x - 1 = omega arith in
    let s : get_or c.as_chunks.result.1.now 0 (pos 0) ≡ get_or x (length x - 1) (pos 0) = rw k.back (get_or-drop (length x / 2 * 2) x 0 (pos 0)) ∙ ap (λ (n : ℕ). get_or x n (pos 0)) i in
    let p : c.square-2.result ≡ q = rw (c.square-2.ensures.0, kept w16 _ c.square-arg-2-1.given, s) in
    let m = c.loop-pair.invariant.most in
    rw (energy_odd x a.s o, ← e) (
      rw (p, c.loop-pair.invariant.total) (omega arith),
      omega (arith, more_le a.s (pairs x a.s c.loop-pair.pair-index) q (2 ^ 31 * c.loop-pair.pair-index) (2 ^ 30) m (omega arith)),
    )
