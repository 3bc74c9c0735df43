use Prim.Native.Nat.{◌-◌}
use mathlib.Core.Path.{◌≡◌}
use mathlib.Core.List.{◌++◌}
use native.Mathlib.Omega.{arith}
use borrow.Author.Rules.{rules}
use borrow.Rule.Slice.PartMut.{put_mid}
use lib.IntN.{pos}
use lib.ListN.{length, take, drop, replicate, length-drop}
use lib.Seq.{length-take-le}
use mir.Syntax.{w32}
use mir.Facts.{to_z-of_z}
use Rattle.word.proofs.Words.{kept, got}
use Rattle.nlsf.specs.Filter.{nlsf2a}
use Rattle.nlsf.proofs.Results.{length-nlsf2a}
use Rattle.shape.specs.Order.{size}
use Rattle.cng.specs.Noise.{exc_mask, drawn, noise_filter, noise_signal}
use Rattle.cng.proofs.Signals.{loaded, signal, length-drawn}
use Rattle.cng.proofs.noise_signal.Goals as goal

pub returns : goal.returns
unfolding noise_filter noise_signal
returns c =
    let sixteen : length c.args.h.now.cng_synth_state ≡ 16 = search rules in
    let h = c.args.h.now in
    let buf = c.args.buf.now in
    let n = length buf - 16 in
    let d = size c.args.order in
    let exc = drawn h.cng_exc_buf_q14 (exc_mask n) h.rand_seed n in
    let a = nlsf2a c.args.edition h.cng_smth_nlsf_q15 d in
    let z = kept w32 h.rand_seed (search rules) in
    let l : length (take n (drop 16 c.copy_at.new.dst)) ≡ n = length-take-le n (drop 16 c.copy_at.new.dst) (rw length-drop (omega (arith, c.copy_at.auto))) in
    let e : c.drawn-seed.new.out ≡ exc = rw (c.drawn-seed.ensures.1, c.exc_mask.ensures.0, l, z) in
    let b : put_mid 16 n c.copy_at.new.dst c.drawn-seed.new.out ≡ h.cng_synth_state ++ exc =
    rw (e, c.copy_at.ensures) (loaded buf h.cng_synth_state exc sixteen c.requires.0 (length-drawn _ _ _ n)) in (
      rw (got w32 c.drawn-seed.type_inv c.drawn-seed.ensures.0, l, z),
      rw (c.synthesis.ensures, c.noise_filter-a.ensures, to_z-of_z c.ranges.edition, b)
          (signal h.cng_synth_state exc a (drop d (replicate 16 (pos 0))) d n sixteen (length-drawn _ _ _ n) (length-nlsf2a _ _ _)),
    )
