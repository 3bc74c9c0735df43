use Prim.Native.Nat.{◌+◌}
use mathlib.Core.Path.{◌≡◌, sym, ap, ◌∙◌}
use lib.IntN.{ℤ, pos, nat_abs}
use lib.ListN.{get_or}
use mir.Syntax.{w32}
use mir.Val.{to_z, of_z}
use Rattle.word.proofs.Words.{kept}
use Rattle.macros.specs.Fixed.{smulww}
use Rattle.decode_core.specs.Core.{refilled, past_at}
use Rattle.decode_core.proofs.Source.past_at.Goals as goal

pub returns-then-rewhitens : goal.returns-then-rewhitens
unfolding past_at
returns-then-rewhitens c =
    let w = sym c.rewhitens.ensures ∙ c.if-rewhitens.true in
    (rw (c.buffer_at.ensures, w), rw (c.rewhiten.ensures, w, c.lag-lag.ensures, kept w32 c.inverse_gain_q31.result c.inverse_gain_q31.type_inv, c.inverse_gain_q31.ensures, c.buffer_at.ensures, c.args.self.now.order_is))

pub returns-else-rewhitens : goal.returns-else-rewhitens
unfolding past_at
returns-else-rewhitens c =
    let w = sym c.rewhitens.ensures ∙ c.if-rewhitens.false in
    let s = c.args.s.now in
    let past = c.args.past.now in
    let e : to_z w32 (of_z w32 s.adj) ≡ s.adj = kept w32 s.adj c.adjust-arg-else-rewhitens-1.given in
    (rw w, c.adjust.ensures ∙ (rw (w, c.lag-lag.ensures) (ap (λ (a : ℤ). refilled past (nat_abs (get_or s.control.pitch_l s.k (pos 0)) + 2) (λ i. smulww a (get_or past i (pos 0)))) e)))
