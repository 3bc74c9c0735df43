use mathlib.Core.Path.{◌≡◌}
use lib.IntN.{pos}
use lib.ListN.{get_or}
use mir.Syntax.{w32}
use mir.Val.{to_z, of_z}
use Rattle.word.proofs.Words.{kept, got}
use Rattle.stability.specs.Stability.{reflection, next_coefficients}
use Rattle.stability.proofs.next_coefficients.Goals as goal

pub returns : goal.returns
unfolding next_coefficients
returns c =
    let s = c.args in
    let x = get_or s.a.now s.k (pos 0) in
    let er : to_z w32 (of_z w32 c.reflection-rc.result) ≡ reflection x =
    rw (got w32 c.reflection-rc.type_inv c.reflection-rc.ensures, kept w32 x c.reflection-arg-1.given) in (
      rw (c.step_all.ensures.0, got w32 c.rc_mult2.type_inv c.rc_mult2.ensures, got w32 c.bit_length-q.type_inv c.bit_length-q.ensures, got w32 c.rc_mult1-m.type_inv c.rc_mult1-m.ensures, er),
      rw (c.step_all.ensures.1, got w32 c.rc_mult2.type_inv c.rc_mult2.ensures, got w32 c.bit_length-q.type_inv c.bit_length-q.ensures, got w32 c.rc_mult1-m.type_inv c.rc_mult1-m.ensures, er),
    )
