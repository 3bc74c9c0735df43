use Prim.Native.Nat.{◌+◌, ◌-◌, ◌*◌, ◌/◌}
use mathlib.Core.Path.{◌≡◌, refl, sym, ap, ◌∙◌}
use mathlib.Core.List.{List, []}
use native.Mathlib.Nat.{add-sub_cancel_left}
use native.Mathlib.Omega.{arith}
use borrow.Rule.Slice.PartMut.{put_mid}
use lib.IntN.{ℤ, pos}
use lib.ListN.{length, get_or, take, drop, length-drop}
use lib.Seq.{take_all, length-take-le}
use mir.Syntax.{w32}
use mir.Val.{to_z, of_z}
use Rattle.word.proofs.Words.{kept}
use Rattle.decoder.specs.declared.SilkDecoderControl.{SilkDecoderControl}
use Rattle.decode_core.specs.Core.{gain_adjustment}
use Rattle.decode_core.specs.declared.Carried.{Carried}
use Rattle.decode_core.proofs.Whiten.{part-front, part-back, part_end}
use Rattle.decode_core.proofs.Plays.{control_at_gains, one_more}
use Rattle.decode_core.proofs.Steps.{longer}
use Rattle.decode_core.proofs.Source.subframe.Goals as goal

pub gain_adjustment-adj-requires : goal.gain_adjustment-adj-requires
gain_adjustment-adj-requires c =
    let f = c.args.self.now.setting in
    let g = ap (λ (x : SilkDecoderControl). get_or x.gains_q16 c.args.k (pos 0)) c.control_at-control.ensures ∙ ap (λ (xs : List ℤ). get_or xs c.args.k (pos 0)) (control_at_gains f c.args.b.control c.args.k) in
    λ e. c.requires.0.gain (sym g ∙ sym (kept w32 (get_or c.control_at-control.result.gains_q16 c.args.k (pos 0)) c.gain-1.given) ∙ e)

pub returns : goal.returns
returns c =
    let f = c.args.self.now.setting in
    let k = c.args.k in
    let N = f.subfr_length in
    let at = N * k in
    let xq = c.args.xq.now in
    let p = c.requires.0 in
    let s = c.load.new.signal in
    let t = c.long_term in
    let res = t.new.res in
    let out = c.lpc_synthesis.new.xq in
    let z = get_or c.control_at-control.result.gains_q16 k (pos 0) in
    let row = get_or c.args.self.now.rows (k / 2) [] in
    let after : Carried = record { control = c.control_at-control.result; gain = to_z w32 (of_z w32 z) } in
    let n : length s ≡ 16 + N = c.load.auto.signal ∙ c.requires.2 in
    let q : take (length s - 16) (drop 16 s) ≡ drop 16 s = take_all (length s - 16) (drop 16 s) (simp length-drop (omega arith)) in
    let x : length (take (at + N - at) (drop at xq)) ≡ N = length-take-le (at + N - at) (drop at xq) (simp length-drop (omega (arith, c.requires.3))) ∙ omega arith in
    let y : length out ≡ N = c.lpc_synthesis.auto.xq ∙ x in
    let h = rw q at t.ensures in
    let v : to_z w32 (of_z w32 c.gain_adjustment-adj.result) ≡ gain_adjustment c.args.b.gain (to_z w32 (of_z w32 z)) =
    kept w32 c.gain_adjustment-adj.result c.gain_adjustment-adj.type_inv ∙ c.gain_adjustment-adj.ensures ∙ ap (λ (i : ℤ). gain_adjustment i (to_z w32 (of_z w32 z))) (kept w32 c.args.b.gain c.struct_told-1.given.1.0.1) in (
      rw (part-front at N xq out y c.requires.3)
          (one_more f c.args.self.now.rows c.args.self.now.exc.now k c.args.b after row (to_z w32 (of_z w32 c.gain_adjustment-adj.result)) c.args.past.now t.new.past c.args.signal.now s (put_mid 16 (length s - 16) s res) c.lpc_synthesis.new.signal c.args.out_buf.now t.new.out_buf (take at xq) res out
          c.control_at-control.ensures
          refl
          (kept w32 z c.gain-1.given)
          v
          (omega (arith, c.requires.2))
          (rw (add-sub_cancel_left at N) at c.load.ensures)
          h
          (part_end 16 s res (omega arith))
          (rw (x, c.args.self.now.order_is) at c.lpc_synthesis.ensures.0)
          (rw (x, c.args.self.now.order_is) at c.lpc_synthesis.ensures.1)),
      part-back at N xq out y c.requires.3,
      longer f c.control_at-control.result k row (to_z w32 (of_z w32 c.gain_adjustment-adj.result)) (take at xq) c.args.out_buf.now c.args.past.now t.new.out_buf t.new.past (drop 16 s) res
          (λ w. record { sized = p.sized; place = p.place; lag = rw c.control_at-control.ensures (p.lag w); low = p.low; high = p.high })
          h,
      t.array_long,
    )
