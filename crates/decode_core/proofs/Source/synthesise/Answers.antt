use Prim.Native.Nat.{◌+◌}
use mathlib.Core.Path.{◌≡◌, refl, sym, ◌∙◌}
use mathlib.Core.List.{◌++◌}
use native.Mathlib.Omega.{arith}
use lib.IntN.{pos}
use lib.ListN.{take, drop, replicate}
use lib.Seq.{take-append-le, length-take-le}
use Rattle.std.proofs.lemmas.List.{take-replicate}
use Rattle.sigproc.proofs.Places.{put_whole}
use Rattle.decode_core.proofs.Frames.{zeros-words, length-signal, memory_front, memory_in, finished}
use Rattle.decode_core.proofs.Source.synthesise.Goals as goal

pub invariant_of-past : goal.invariant_of-past
invariant_of-past c =
    let h = c.requires.0.sized in
    (zeros-words (replicate 640 (pos 0)) refl, omega (arith, h.subframe, h.history))

pub returns : goal.returns
returns c =
    let s = c.copy_at.new.dst in
    let g = c.args.self.now in
    let f = g.setting in
    let l = f.subfr_length in
    let h = c.requires.0.sized.subframe in
    let u = c.subframes-t in
    let p = u.new.signal in
    let memory = c.args.memory.now in
    let k = memory_front s (replicate 96 (pos 0)) memory l refl c.copy_at.auto.dst h p u.auto.signal in
    let i = length-signal s (replicate 96 (pos 0)) memory l refl c.copy_at.auto.dst h in
    let t : take 16 (p ++ drop (16 + l) s) ≡ take 16 p = take-append-le 16 p (drop (16 + l) s) (omega (arith, u.auto.signal)) in
    finished f g.rows g.exc.now f.nb_subfr c.args.b u.result (take f.ltp_mem_length (replicate 640 (pos 0))) (take (16 + l) s) p u.new.past c.args.out_buf.now u.new.out_buf c.args.xq.now u.new.xq memory _
    (take-replicate f.ltp_mem_length 640 (pos 0) (omega (arith, c.requires.0.sized.history)))
    (memory_in s (replicate 96 (pos 0)) memory l refl c.copy_at.auto.dst h c.copy_at.ensures c.told-memory)
    u.ensures.0
    u.ensures.1
    (c.copy_at-2.ensures ∙ put_whole memory (take 16 (p ++ drop (16 + l) s)) (c.told-memory ∙ sym (length-take-le 16 (p ++ drop (16 + l) s) k)) ∙ t)
