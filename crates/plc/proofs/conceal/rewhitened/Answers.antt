use Prim.Native.Nat.{ℕ, ◌+◌, ◌*◌, ◌-◌, ◌≤◌}
use mathlib.Core.Path.{◌≡◌, refl, ap, ◌∙◌}
use native.Mathlib.Omega.{arith}
use borrow.Author.Rules.{rules}
use lib.IntN.{ℤ, pos, nat_abs}
use lib.ListN.{get_or, take, drop, length, length-drop}
use lib.Seq.{length-take-le}
use mir.Syntax.{w32}
use mir.Val.{to_z, of_z}
use Rattle.word.proofs.Words.{kept, got}
use Rattle.macros.specs.Fixed.{smulwb}
use Rattle.shape.specs.Shape.{rate_of, order_of}
use Rattle.shape.proofs.Shapes.{rates, rate_le}
use Rattle.sigproc.specs.Analysis.{residual}
use Rattle.decoder.proofs.Between.{between}
use Rattle.plc.specs.Conceal.{inverse_gain_q30, lag_of, rewhitened}
use Rattle.plc.proofs.Numbers.{frame_times}
use Rattle.plc.proofs.Pitch.{lag_range}
use Rattle.plc.proofs.Rewhiten.{filled_behind}
use Rattle.plc.proofs.Ready.{order_room}
use Rattle.plc.proofs.conceal.rewhitened.Goals.{After-ltp_mem_length-mem}
use Rattle.plc.proofs.conceal.rewhitened.Goals as goal

pub overflow_cast-lag : goal.overflow_cast-lag
overflow_cast-lag c =
    let h = c.args.h in
    let r = rate_of c.args.frame.fs_khz in
    let b = lag_range r h.pitch_l_q8 (between (512 * r) (4608 * r) h.pitch_l_q8 c.requires.1) in
    let e : c.lag_of-lag.result ≡ lag_of h.pitch_l_q8 = c.lag_of-lag.ensures ∙ ap lag_of (kept w32 h.pitch_l_q8 (search rules)) in
    rw (kept w32 c.lag_of-lag.result c.lag_of-lag.type_inv, e, b.is) (tt, omega (arith, b.high, rate_le c.args.frame.fs_khz))

-- the lengths, as they were computed
record Lengths (r lag mem z : ℕ) : Type 0 where
  lag_eq : z ≡ lag
  mem_eq : mem ≡ 20 * r
  low : r ≤ 16
  fits : lag + order_of r + 2 ≤ mem

lengths : (c : After-ltp_mem_length-mem) → let a = c.args in
    Lengths (rate_of a.frame.fs_khz) (nat_abs (lag_of a.h.pitch_l_q8)) c.ltp_mem_length-mem.result (nat_abs (to_z w32 (of_z w32 c.lag_of-lag.result)))
lengths c =
    let f = c.args.frame in
    let h = c.args.h in
    let r = rate_of f.fs_khz in
    let b = lag_range r h.pitch_l_q8 (between (512 * r) (4608 * r) h.pitch_l_q8 c.requires.1) in
    let e : c.lag_of-lag.result ≡ lag_of h.pitch_l_q8 = c.lag_of-lag.ensures ∙ ap lag_of (kept w32 h.pitch_l_q8 (search rules)) in
    let m = frame_times f 20 c.ltp_mem_length-mem.ensures in
    record {
      lag_eq = rw (kept w32 c.lag_of-lag.result c.lag_of-lag.type_inv, e) refl;
      mem_eq = m;
      low = rate_le f.fs_khz;
      fits = omega (arith, b.high, order_room (rates f.fs_khz f.rate), m);
    }

pub overflow_sub-from : goal.overflow_sub-from
overflow_sub-from c = let l = lengths (goal.at.overflow_sub-from c).After-ltp_mem_length-mem in omega (arith, l.lag_eq, l.fits)

pub overflow_sub-from-2 : goal.overflow_sub-from-2
overflow_sub-from-2 c = let l = lengths (goal.at.overflow_sub-from-2 c).After-ltp_mem_length-mem in omega (arith, l.lag_eq, l.fits)

pub offset_bounds-buf-from : goal.offset_bounds-buf-from
offset_bounds-buf-from c = let l = lengths (goal.at.offset_bounds-buf-from c).After-ltp_mem_length-mem in record { fits = omega (arith, l.mem_eq, l.low) }

pub slice_bounds-rewhiten-end : goal.slice_bounds-rewhiten-end
slice_bounds-rewhiten-end c = let l = lengths (goal.at.slice_bounds-rewhiten-end c).After-ltp_mem_length-mem in omega (arith, l.mem_eq, l.low)

pub shared_ref_as_front-rewhiten : goal.shared_ref_as_front-rewhiten
shared_ref_as_front-rewhiten c = let l = lengths (goal.at.shared_ref_as_front-rewhiten c).After-ltp_mem_length-mem in omega (arith, l.mem_eq, l.low)

pub rewhiten-requires : goal.rewhiten-requires
rewhiten-requires c =
    let a = c.args in
    let l = lengths (goal.at.rewhiten-requires c).After-ltp_mem_length-mem in
    let mem = c.ltp_mem_length-mem.result in
    let from = mem - nat_abs (to_z w32 (of_z w32 c.lag_of-lag.result)) - 2 in
    let o : length a.out_buf.now ≡ 480 = search rules in
    let b : length a.buf.now ≡ 640 = search rules in
    let x : length (take mem a.out_buf.now) ≡ mem = length-take-le mem a.out_buf.now (omega (arith, o, l.mem_eq, l.low)) in
    let z : length (take (mem - from) (drop from a.buf.now)) ≡ mem - from = length-take-le (mem - from) (drop from a.buf.now) (simp length-drop (omega (arith, b, l.mem_eq, l.low))) in
    rw (x, z) (omega (arith, l.lag_eq, l.fits, c.order.ensures), omega arith, omega (arith, l.lag_eq, l.fits, l.mem_eq, l.low, c.order.ensures))

pub returns : goal.returns
unfolding rewhitened inverse_gain_q30
returns c =
    let a = c.args in
    let l = lengths (goal.at.returns c).After-ltp_mem_length-mem in
    let r = rate_of a.frame.fs_khz in
    let mem = 20 * r in
    let from = mem - nat_abs (lag_of a.h.pitch_l_q8) - 2 in
    let b : length a.buf.now ≡ 640 = search rules in
    let z : length (take (mem - from) (drop from a.buf.now)) ≡ mem - from = length-take-le (mem - from) (drop from a.buf.now) (simp length-drop (omega (arith, b, l.low))) in
    let g : to_z w32 (of_z w32 c.inverse_gain-inverse.result) ≡ inverse_gain_q30 a.h = got w32 c.inverse_gain-inverse.type_inv (c.inverse_gain-inverse.ensures ∙ rw (kept w32 (get_or a.h.prev_gain_q16 1 (pos 0)) (search rules))) in
    let f : ℕ → ℤ = λ i. smulwb (inverse_gain_q30 a.h) (residual (take mem a.out_buf.now) a.a.now (order_of r) i) in
    rw (l.mem_eq, l.lag_eq)
    (filled_behind a.buf.now c.rewhiten.new.to f from mem (omega arith) (omega (arith, b, l.low)) c.requires.0
    (rw (l.mem_eq, l.lag_eq, z, g, c.order.ensures) at c.rewhiten.ensures))
