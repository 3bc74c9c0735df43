use Prim.Native.Nat.{ℕ, ◌+◌, ◌*◌, ◌≤◌}
use mathlib.Core.Path.{◌≡◌, ap, ◌∙◌}
use native.Mathlib.Numerals.{add-one}
use native.Mathlib.Omega.{arith}
use borrow.Author.Rules.{rules}
use lib.IntN.{nat_abs}
use lib.ListN.{take}
use Rattle.shape.specs.Shape.{shape, rate_of, count_of}
use Rattle.shape.specs.declared.FrameShape.{FrameShape}
use Rattle.shape.proofs.Shapes.{rate_le, count_back, count_le}
use Rattle.decoder.proofs.Between.{between, between-back}
use Rattle.plc.specs.Conceal.{Voice, voice_of, lag_of, excited_times, faded_voice, voices}
use Rattle.plc.proofs.Numbers.{frame_times}
use Rattle.plc.proofs.Excite.{room}
use Rattle.plc.proofs.Pitch.{Pitched, voices_pitch}
use Rattle.plc.proofs.conceal.subframes.Goals.{In-loop-j}
use Rattle.plc.proofs.conceal.subframes.Goals as goal

-- the lengths of the history and of a subframe, and the place of a subframe within the buffer
record Fit (f : FrameShape) (mem l n j : ℕ) : Type 0 where
  mem_is : mem ≡ 20 * rate_of f.fs_khz
  sub_is : l ≡ 5 * rate_of f.fs_khz
  count_is : n ≡ count_of f.nb_subfr
  room_mem : mem ≤ 320
  room_sub : l * j + l ≤ 320

fit : (c : In-loop-j) → Fit c.args.frame c.ltp_mem_length-mem.result c.subfr_length-l.result c.count_of-n.result c.loop-j.j
fit c =
    let f = c.args.frame in
    let r = rate_le f.fs_khz in
    let m = frame_times f 20 c.ltp_mem_length-mem.ensures in
    let s = frame_times f 5 c.subfr_length-l.ensures in
    let n : c.count_of-n.result ≡ count_of f.nb_subfr = c.count_of-n.ensures ∙ rw (count_back f.nb_subfr f.count) in
    record {
      mem_is = m;
      sub_is = s;
      count_is = n;
      room_mem = omega arith;
      room_sub = rw s (room _ c.loop-j.j (count_of f.nb_subfr) r (omega (arith, n, c.loop-j-test.true)) (count_le f.nb_subfr));
    }

pub loop-j-init : goal.loop-j-init
unfolding voices
loop-j-init c =
    let e : c.ltp_mem_length-mem.result + c.subfr_length-l.result * 0 ≡ c.ltp_mem_length-mem.result = omega arith in
    (search rules, search rules, rw e)

pub overflow_mul-at : goal.overflow_mul-at
overflow_mul-at c = let b = fit (goal.at.overflow_mul-at c).In-loop-j in omega (arith, b.room_sub)

pub overflow_add-at : goal.overflow_add-at
overflow_add-at c = let b = fit (goal.at.overflow_add-at c).In-loop-j in omega (arith, b.room_mem, b.room_sub)

pub subframe-k-requires : goal.subframe-k-requires
subframe-k-requires c =
    let a = c.args in
    let f = a.frame in
    let b = fit (goal.at.subframe-k-requires c).In-loop-j in
    let h : Pitched (rate_of f.fs_khz) a.k0.pitch_q8 = between _ _ a.k0.pitch_q8 c.requires in
    let v = voices_pitch (shape f.fs_khz f.nb_subfr) a.noise.now 0 a.fading.harm_gain_q15 a.fading.rand_gain_q15 c.loop-j.j (voice_of (take c.ltp_mem_length-mem.result a.buf.now) a.k0) (rate_le f.fs_khz) h in
    (omega (arith, b.mem_is), omega (arith, b.sub_is, b.room_mem, b.room_sub), between-back _ (rw (ap (λ (w : Voice). w.pitch) c.loop-j.invariant.2) v))

pub loop-j-preserved : goal.loop-j-preserved
unfolding voices
loop-j-preserved c =
    let a = c.args in
    let r = rate_of a.frame.fs_khz in
    let b = fit (goal.at.loop-j-preserved c).In-loop-j in
    let e : c.ltp_mem_length-mem.result + c.subfr_length-l.result * (c.loop-j.j + 1) ≡ c.ltp_mem_length-mem.result + c.subfr_length-l.result * c.loop-j.j + 5 * r = omega (arith, b.sub_is) in (
      search rules,
      search rules,
      rw (e, add-one) (c.subframe-k.ensures ∙ ap (λ (w : Voice). faded_voice r a.fading.harm_gain_q15 a.fading.rand_gain_q15 (excited_times a.noise.now 0 (nat_abs (lag_of w.pitch)) (5 * r) w)) c.loop-j.invariant.2),
    )
