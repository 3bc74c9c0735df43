use Prim.Native.Nat.{◌*◌, ◌<◌}
use mathlib.Core.Path.{◌≡◌, refl, ap, ◌∙◌}
use native.Mathlib.Omega.{arith}
use native.Mathlib.Nat.{le_refl}
use borrow.Author.Rules.{rules}
use lib.IntN.{ℤ}
use lib.ListN.{length, take}
use lib.Seq.{length-take-le}
use mir.Syntax.{w32}
use Rattle.word.proofs.Words.{kept, got}
use Rattle.shape.specs.Shape.{rate_of, count_of}
use Rattle.shape.proofs.Shapes.{Shaped, shaped, rate_back, count_back}
use Rattle.cng.specs.Noise.{tracked}
use Rattle.cng.proofs.Places.{place_lt, loudest_front, gain_front}
use Rattle.cng.proofs.tracked.Goals.{After-count_of-n}
use Rattle.cng.proofs.tracked.Goals as goal

count : (c : After-count_of-n) → c.count_of-n.result ≡ count_of c.args.shape.nb_subfr
count c = let s = c.args.shape in c.count_of-n.ensures ∙ ap count_of (count_back s.nb_subfr s.count)

subframe : (c : After-count_of-n) → c.subfr_length-l.result ≡ 5 * rate_of c.args.shape.fs_khz
subframe c = let s = c.args.shape in c.subfr_length-l.ensures ∙ ap (λ (z : ℤ). 5 * rate_of z) (rate_back s.fs_khz s.rate)

bounds : (c : After-count_of-n) → Shaped (rate_of c.args.shape.fs_khz) (count_of c.args.shape.nb_subfr)
bounds c = let s = c.args.shape in shaped s.fs_khz s.nb_subfr s.rate s.count

pub shared_ref_as_front-gains : goal.shared_ref_as_front-gains
shared_ref_as_front-gains c = omega (arith, count c, (bounds c).count_high)

-- as many gains as there are subframes
gains : (c : After-count_of-n) → length (take c.count_of-n.result c.args.gains.now) ≡ c.count_of-n.result
gains c = length-take-le _ _ (omega (arith, c.told-gains, count c, (bounds c).count_high))

pub moved_in-requires : goal.moved_in-requires
moved_in-requires c =
    let o = (goal.at.moved_in-requires c).After-count_of-n in
    let b = bounds o in
    let p : c.loudest.result < c.count_of-n.result = rw (c.loudest.ensures, gains o) (place_lt _ _ (omega (arith, count o, b.count_low))) in
    (omega (arith, subframe o, b.rate_high), omega (arith, count o, b.count_high), p)

pub returns : goal.returns
unfolding tracked
returns c =
    let a = c.args in
    let o = (goal.at.returns c).After-count_of-n in
    let s = a.shape in
    rw (
      got w32 c.smoothed_gain-h.type_inv c.smoothed_gain-h.ensures,
      kept w32 a.h.now.cng_smth_gain_q16 (search rules),
      c.smoothed_lines.ensures,
      c.order.ensures,
      c.moved_in.ensures,
      c.loudest.ensures,
      gains o,
      loudest_front a.gains.now c.count_of-n.result c.count_of-n.result (le_refl _),
      gain_front a.h.now.cng_smth_gain_q16 a.gains.now c.count_of-n.result c.count_of-n.result (le_refl _),
      subframe o,
      count o,
    )
    refl
