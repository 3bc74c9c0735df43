use mathlib.Core.Path.{◌≡◌, refl, ◌∙◌}
use native.Mathlib.Numerals.{add-one}
use borrow.Author.Rules.{rules}
use lib.ListN.{length}
use Rattle.decode_core.proofs.Loop.{begun, playable, went, room}
use Rattle.decode_core.proofs.Source.subframes.Goals as goal

pub loop-k-init : goal.loop-k-init
loop-k-init c =
    let a = c.args in
    let s = a.self.now in
    let n : length a.b.control.pitch_l ≡ 4 = search rules in
    (refl, c.told-out_buf, refl, begun s.setting s.rows s.exc.now s.setting.nb_subfr a.b a.signal.now a.past.now a.out_buf.now a.xq.now c.requires.1 n)

pub subframe-t-requires : goal.subframe-t-requires
subframe-t-requires c =
    let l = c.loop-k in
    let a = c.args in
    let s = a.self.now in
    let f = s.setting in (
      playable f s.rows s.exc.now f.nb_subfr a.b a.signal.now a.past.now a.out_buf.now a.xq.now l.k l.t l.signal l.past l.out_buf l.xq c.requires.0 c.loop-k-test.true l.invariant.3,
      room f l.k f.nb_subfr (length s.exc.now) c.loop-k-test.true c.requires.2,
      l.invariant.0 ∙ c.requires.3,
      rw l.invariant.2 (room f l.k f.nb_subfr (length a.xq.now) c.loop-k-test.true c.requires.4),
    )

pub loop-k-preserved : goal.loop-k-preserved
loop-k-preserved c =
    let m = c.subframe-t in
    let l = c.loop-k in
    let a = c.args in
    let s = a.self.now in
    let f = s.setting in (
      m.auto.signal ∙ l.invariant.0,
      m.ensures.3,
      m.auto.xq ∙ l.invariant.2,
      rw add-one (went f s.rows s.exc.now f.nb_subfr a.b a.signal.now a.past.now a.out_buf.now a.xq.now l.k l.t m.result l.signal l.past l.out_buf l.xq m.new.signal m.new.past m.new.out_buf m.new.xq l.invariant.3 m.ensures.0 m.ensures.1 m.ensures.2),
    )
