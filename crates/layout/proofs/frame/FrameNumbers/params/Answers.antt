use mathlib.Core.Path.{refl, ap, ◌∙◌}
use Prim.Native.Nat.{ℕ}
use lib.IntN.{nat_abs}
use mir.Syntax.{w8, w32}
use mir.Val.{to_z, SFits}
use mir.Facts.{to_z-of_z}
use borrow.Author.Rules.{rules}
use Rattle.word.specs.Int.{wrap}
use Rattle.word.proofs.Words.{kept, low_word}
use Rattle.decoder.specs.Signals.{signal_of}
use Rattle.layout.specs.Layout.{one}
use Rattle.layout.specs.Frame.{small, params_in}
use Rattle.layout.proofs.frame.FrameNumbers.params.Goals as goal

pub returns : goal.returns
unfolding params_in wrap
returns c =
    let xs = c.args.self.numbers.now in
    let r3 : SFits w32 (one xs 3) = search rules in
    let r4 : SFits w32 (one xs 4) = search rules in
    let r5 : SFits w32 (one xs 5) = search rules in
    let r6 : SFits w32 (one xs 6) = search rules in
    let e3 = kept w8 _ c.small.type_inv ∙ c.small.ensures ∙ ap small (to_z-of_z r3) in
    let e4 = kept w8 _ c.small-2.type_inv ∙ c.small-2.ensures ∙ ap small (to_z-of_z r4) in
    let e5 = kept w8 _ c.small-3.type_inv ∙ c.small-3.ensures ∙ ap small (to_z-of_z r5) in
    let low = ap (λ (n : ℕ). to_z w8 n) (ap nat_abs (low_word w32 w32 24 8 (one xs 6) refl tt r6)) in
    λ i.
    record {
      signal = (c.from-signal.ensures ∙ ap signal_of e3) i;
      quant_offset_type = e4 i;
      nlsf_interp_coef_q2 = e5 i;
      seed = (kept w8 _ c.cast_signed.type_inv ∙ c.cast_signed.ensures ∙ low) i;
    }
