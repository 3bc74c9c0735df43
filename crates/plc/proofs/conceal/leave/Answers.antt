use Prim.Native.Nat.{◌^◌, ◌<◌}
use mathlib.Core.Path.{◌≡◌, sym, subst, ◌∙◌}
use mathlib.Core.Bool.{false}
use borrow.Author.Rules.{rules}
use lib.IntN.{ℤ, pos, nat_abs, ◌+ℤ◌}
use lib.Signed.{mag}
use mir.Syntax.{w32}
use Rattle.word.specs.Int.{wrap32, eq_ℤ}
use Rattle.word.proofs.Words.{kept, got}
use Rattle.decoder.specs.With.{with_memory, with_losses, with_plc}
use Rattle.decoder.proofs.Between.{natural}
use Rattle.plc.specs.Conceal.{lagged}
use Rattle.plc.proofs.Ready.{one_more}
use Rattle.plc.proofs.conceal.leave.Goals as goal

pub returns : goal.returns
returns c =
    let a = c.args.a.now in
    let r = c.args.r in
    let z = a.state.loss_cnt in
    let told : mag z < 2 ^ 31 = search rules in
    let more : wrap32 (z +ℤ pos 1) ≡ z +ℤ pos 1 = subst (λ (y : ℤ). mag y < 2 ^ 31 → eq_ℤ y (pos 2147483647) ≡ false → wrap32 (y +ℤ pos 1) ≡ y +ℤ pos 1) (sym (natural z c.requires.0)) (one_more (nat_abs z)) told c.requires.1 in
    let e = got w32 c.add32-a.type_inv (c.add32-a.ensures ∙ rw (kept w32 z told) more) in
    let l = kept w32 r.lag (search rules) in
    λ i. record { state = with_plc (with_losses (with_memory a.state r.memory) (e i)) r.plc; control = lagged a.control (l i) }
