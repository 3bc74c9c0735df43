use Prim.Native.Nat.{ℕ, ◌+◌, ◌-◌, ◌*◌, ◌≤◌}
use mathlib.Core.Path.{◌≡◌, sym, ap, ◌∙◌}
use mathlib.Core.List.{List, ◌++◌, map}
use native.Mathlib.Omega.{arith}
use borrow.Author.Rules.{rules}
use borrow.Rule.Slice.PartMut.{put_mid}
use lib.IntN.{ℤ}
use lib.ListN.{length, take, drop, length-drop}
use lib.Seq.{length-take-le}
use mir.Facts.{to_z-of_z}
use Rattle.sigproc.specs.Place.{put_at}
use Rattle.sigproc.specs.Synthesis.{synthesis, played}
use Rattle.sigproc.proofs.Filter.{memory_length}
use Rattle.sigproc.proofs.Places.{put_whole}
use Rattle.shape.specs.Order.{size}
use Rattle.shape.specs.Shape.{rate_of, count_of, order_of}
use Rattle.shape.specs.declared.FrameShape.{FrameShape}
use Rattle.shape.proofs.Shapes.{shaped, rate_back, count_back}
use Rattle.plc.proofs.Numbers.{frame_times}
use Rattle.plc.proofs.Synthesis.{made_in, samples, memory_after}
use Rattle.plc.proofs.conceal.synthesise.Goals.{After-frame_length-len}
use Rattle.plc.proofs.conceal.synthesise.Goals as goal

-- the lengths of the history and of the frame, and their bounds
record Lengths (f : FrameShape) (mem len : ℕ) : Type 0 where
  mem_is : mem ≡ 20 * rate_of f.fs_khz
  len_is : len ≡ 5 * rate_of f.fs_khz * count_of f.nb_subfr
  mem_low : 16 ≤ mem
  len_low : 16 ≤ len
  both : mem + len ≤ 640

lengths : (c : After-frame_length-len) → Lengths c.args.frame c.ltp_mem_length-mem.result c.frame_length-len.result
lengths c =
    let f = c.args.frame in
    let m = frame_times f 20 c.ltp_mem_length-mem.ensures in
    let n : c.frame_length-len.result ≡ 5 * rate_of f.fs_khz * count_of f.nb_subfr = c.frame_length-len.ensures ∙ rw (rate_back f.fs_khz f.rate, count_back f.nb_subfr f.count) in
    let b = shaped f.fs_khz f.nb_subfr f.rate f.count in
    record {
      mem_is = m;
      len_is = n;
      mem_low = omega (arith, m, b.rate_low);
      len_low = omega (arith, n, b.rate_low, b.frame_low);
      both = omega (arith, m, n, b.rate_high, b.frame_high);
    }

pub overflow_sub-base : goal.overflow_sub-base
overflow_sub-base c = (lengths (goal.at.overflow_sub-base c).After-frame_length-len).mem_low

pub overflow_add-end : goal.overflow_add-end
overflow_add-end c = let l = lengths (goal.at.overflow_add-end c).After-frame_length-len in record { fits = omega (arith, l.both) }

pub copy_at-requires : goal.copy_at-requires
copy_at-requires c =
    let l = lengths (goal.at.copy_at-requires c).After-frame_length-len in
    let m : length c.args.memory ≡ 16 = search rules in
    let b : length c.args.buf.now ≡ 640 = search rules in
    omega (arith, l.mem_low, l.both)

pub offset_bounds-buf-base : goal.offset_bounds-buf-base
offset_bounds-buf-base c = let l = lengths (goal.at.offset_bounds-buf-base c).After-frame_length-len in record { fits = omega (arith, l.both) }

pub slice_bounds-synthesis-end : goal.slice_bounds-synthesis-end
slice_bounds-synthesis-end c = let l = lengths (goal.at.slice_bounds-synthesis-end c).After-frame_length-len in omega (arith, l.both)

pub synthesis-requires : goal.synthesis-requires
synthesis-requires c =
    let l = lengths (goal.at.synthesis-requires c).After-frame_length-len in
    let mem = c.ltp_mem_length-mem.result in
    let len = c.frame_length-len.result in
    let b : length c.args.buf.now ≡ 640 = search rules in
    rw (length-take-le (mem + len - (mem - 16)) (drop (mem - 16) c.copy_at.new.dst) (simp length-drop (omega (arith, c.copy_at.auto.dst, l.both)))) (omega (arith, l.mem_low, l.len_low))

pub overflow_sub-end : goal.overflow_sub-end
overflow_sub-end c = let l = lengths (goal.at.overflow_sub-end c).After-frame_length-len in omega (arith, l.mem_low)

pub returns : goal.returns
returns c =
    let a = c.args in
    let l = lengths (goal.at.returns c).After-frame_length-len in
    let r = rate_of a.frame.fs_khz in
    let mem = c.ltp_mem_length-mem.result in
    let len = c.frame_length-len.result in
    let d = size c.order.result in
    let m16 : length a.memory ≡ 16 = search rules in
    let z : length a.buf.now ≡ 640 = search rules in
    let room : mem + len ≤ length a.buf.now = omega (arith, l.both) in
    let b = c.copy_at.new.dst in
    let u = drop mem (take (mem + len) a.buf.now) in
    let made = synthesis a.memory u a.a.now d len in
    let e : c.synthesis.new.buf ≡ made =
    c.synthesis.ensures
    ∙ made_in a.buf.now a.memory a.a.now d mem len m16 l.mem_low room (take (mem + len - (mem - 16)) (drop (mem - 16) b))
    (ap (λ (x : List ℤ). take (mem + len - (mem - 16)) (drop (mem - 16) x)) c.copy_at.ensures) in
    let after : length (drop len made) ≡ length a.memory = memory_length a.memory u a.a.now d len in
    let first =
    ap (λ (x : List ℤ). take (mem + len - (mem + len - 16)) (drop (mem + len - 16) (put_mid (mem - 16) (mem + len - (mem - 16)) b x))) e
    ∙ memory_after a.buf.now a.memory a.a.now d mem len m16 l.mem_low room b c.copy_at.auto.dst in
    let second =
    ap (λ (x : List ℤ). take (mem + len - mem) (drop mem (put_mid (mem - 16) (mem + len - (mem - 16)) b x))) e
    ∙ samples a.buf.now a.memory a.a.now d mem len m16 l.mem_low room b c.copy_at.auto.dst in
    let g = to_z-of_z c.ranges.gain_q16 in
    let m = l.mem_is in
    let n = l.len_is in
    let o : d ≡ order_of r = c.order.ensures in (
      c.copy_at-2.ensures ∙ ap (put_at a.memory 0) first ∙ put_whole a.memory (drop len made) (sym after) ∙ (λ i. drop (n i) (synthesis a.memory (drop (m i) (take (m i + n i) a.buf.now)) a.a.now (o i) (n i))),
      ap (λ (x : List ℤ). x ++ drop len a.xq.now) (c.scale_out.ensures ∙ (λ i. map (played (g i)) (second i))) ∙ (λ i. map (played a.gain_q16) (drop 16 (synthesis a.memory (drop (m i) (take (m i + n i) a.buf.now)) a.a.now (o i) (n i))) ++ drop (n i) a.xq.now),
    )
