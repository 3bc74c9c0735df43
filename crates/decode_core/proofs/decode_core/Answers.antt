use Prim.Native.Nat.{◌*◌}
use mathlib.Core.Path.{◌≡◌, refl, sym, subst}
use native.Mathlib.Omega.{arith}
use borrow.Author.Rules.{rules}
use mir.Syntax.{w32}
use mir.Val.{to_z, of_z}
use Rattle.word.proofs.Words.{kept}
use Rattle.shape.specs.Shape.{frame_length}
use Rattle.shape.proofs.Shapes.{frame_le}
use Rattle.decoder.specs.State.{shape_of}
use Rattle.decode_core.specs.Core.{setting_of}
use Rattle.decode_core.specs.Ready.{Framed}
use Rattle.decode_core.specs.declared.Setting.{Setting}
use Rattle.decode_core.specs.declared.Carried.{Carried}
use Rattle.decode_core.proofs.Frames.{counted, frame_of_lem, decoded_state, decoded_control, decoded-samples}
use Rattle.decode_core.proofs.decode_core.Goals as goal

pub decode_by-t-requires : goal.decode_by-t-requires
unfolding setting_of
decode_by-t-requires c =
    let s = c.args.a.now.state in
    let f = c.setting_of-f.result in
    let e = c.setting_of-f.ensures in
    let n : f.subfr_length * f.nb_subfr ≡ frame_length (shape_of s) = frame_of_lem s c.args.q f f.nb_subfr e (counted s c.args.q f e) in
    (subst (λ (g : Setting). Framed g c.args.a.now.control g.nb_subfr) (sym e) c.requires.0, omega (arith, c.requires.1, n), omega (arith, n, frame_le s.fs_khz s.nb_subfr), omega (arith, c.requires.2, n))

pub returns : goal.returns
returns c =
    let a = c.args in
    let s = a.a.now.state in
    let f = c.setting_of-f.result in
    let e = c.setting_of-f.ensures in
    let k = counted s a.q f e in
    let u = c.decode_by-t in
    let b : Carried = record { control = a.a.now.control; gain = to_z w32 (of_z w32 s.prev_gain_q16) } in
    let hg : b.gain ≡ s.prev_gain_q16 = kept w32 s.prev_gain_q16 (search rules) in
    let gr : to_z w32 (of_z w32 u.result.gain) ≡ u.result.gain = kept w32 u.result.gain (search rules) in (
      rw gr (decoded_state s a.q a.a.now.control a.rows a.pulses.now f f.nb_subfr _ b u.result u.new.memory u.new.out_buf u.new.xq a.xq.now e k u.ensures.0 refl hg u.ensures.1),
      decoded_control s a.q a.a.now.control a.rows a.pulses.now f f.nb_subfr _ b u.result u.new.memory u.new.out_buf u.new.xq a.xq.now e k u.ensures.0 refl hg u.ensures.1,
      decoded-samples s a.q a.a.now.control a.rows a.pulses.now f f.nb_subfr _ b u.result u.new.memory u.new.out_buf u.new.xq a.xq.now e k u.ensures.0 refl hg u.ensures.1,
    )
