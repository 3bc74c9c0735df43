use Prim.Native.Nat.{◌+◌, ◌-◌}
use mathlib.Core.Path.{◌≡◌, refl, sym, ◌∙◌}
use mathlib.Core.List.{List}
use native.Mathlib.Omega.{arith}
use borrow.Author.Rules.{rules}
use lib.IntN.{ℤ, pos}
use lib.ListN.{length, take, drop, replicate}
use lib.Seq.{length-take-le}
use mir.Syntax.{w32}
use mir.Facts.{to_z-of_z}
use mir.Val.{to_z, of_z}
use Rattle.word.proofs.Words.{kept, got}
use Rattle.shape.specs.Order.{size}
use Rattle.shape.specs.Shape.{is_count, rate_of, order_of}
use Rattle.decoder.proofs.Bounds.{cng_bounds}
use Rattle.cng.specs.Noise.{cng_ready, noise_signal, sounded}
use Rattle.cng.proofs.Lines.{none_negative, ready_held}
use Rattle.cng.proofs.Signals.{noise_length, new_memory, sum}
use Rattle.cng.proofs.lost.Goals as goal

pub invariant_of-shape : goal.invariant_of-shape
unfolding is_count
invariant_of-shape c = record { rate = rw (to_z-of_z c.ranges.khz) c.requires.0; count = refl }

pub noise_signal-seed-requires : goal.noise_signal-seed-requires
noise_signal-seed-requires c =
    let a = c.args in
    let n = length a.frame.now in
    let zeros : List ℤ = replicate 336 (pos 0) in
    let b = cng_bounds (rate_of a.khz) a.h.now c.requires.1 in (
      rw (length-take-le (16 + n) zeros (omega (arith, c.requires.2))) (omega arith),
      rw (c.order.ensures, c.ready.ensures, to_z-of_z c.ranges.khz) (none_negative _ _ (ready_held _ _ b).cng_smth_nlsf_q15),
    )

pub returns : goal.returns
unfolding sounded
returns c =
    let a = c.args in
    let h = c.ready.new.h in
    let d = size c.order.result in
    let b = to_z-of_z c.ranges.khz in
    let k : cng_ready (rate_of (to_z w32 (of_z w32 a.khz))) a.h.now ≡ cng_ready (rate_of a.khz) a.h.now = λ i. cng_ready (rate_of (b i)) a.h.now in
    let o : order_of (rate_of (to_z w32 (of_z w32 a.khz))) ≡ order_of (rate_of a.khz) = λ i. order_of (rate_of (b i)) in
    let frame = a.frame.now in
    let n = length frame in
    let zeros : List ℤ = replicate 336 (pos 0) in
    let sixteen : length h.cng_synth_state ≡ 16 = search rules in
    let part : length (take (16 + n) zeros) - 16 ≡ n = rw (length-take-le (16 + n) zeros (omega (arith, c.requires.2))) (omega arith) in
    let sig = noise_signal a.edition d h n in
    let e : c.noise_signal-seed.new.buf ≡ sig = c.noise_signal-seed.ensures.1 ∙ (λ i. noise_signal (to_z-of_z c.ranges.edition i) d h (part i)) in
    let rest = drop (16 + n) zeros in
    let l = noise_length a.edition d h n sixteen in
    rw (sym (c.ready.ensures ∙ k), sym (c.order.ensures ∙ o)) (
      rw (
        c.copy_at.ensures,
        e,
        got w32 c.noise_signal-seed.type_inv c.noise_signal-seed.ensures.0,
        part,
        new_memory sig rest n l h.cng_synth_state sixteen,
      ),
      rw (
        c.added.ensures,
        e,
        got w32 c.noise_gain.type_inv c.noise_gain.ensures,
        to_z-of_z c.ranges.scale,
        to_z-of_z c.ranges.last,
        kept w32 h.cng_smth_gain_q16 (search rules),
      )
          (sum sig rest n l frame _ refl),
    )
