use mathlib.Core.Path.{◌≡◌, sym, ap, ◌∙◌}
use mathlib.Core.Bool.{Bool}
use lib.IntN.{pos}
use lib.ListN.{replicate}
use mir.Syntax.{w32}
use mir.Val.{of_z}
use mir.Facts.{to_z-of_z}
use Rattle.word.proofs.Order.{eq_ℤ_ne}
use Rattle.decoder.specs.With.{with_memory, with_out_buf, with_lag, with_first, with_type, with_shape}
use Rattle.decoder.specs.Reshape.{reshaped, reshaped_by}
use Rattle.decoder.specs.declared.SilkDecoderState.{SilkDecoderState}
use borrow.Author.Rules.{rules}
use Rattle.decoder.proofs.Held.{held_rate}
use Rattle.decoder.proofs.reshape.Goals as goal

pub returns-then-khz-held : goal.returns-then-khz-held
returns-then-khz-held c =
    c.with_shape.ensures ∙ held_rate c.args.khz c.args.nb_subfr c.args.s.now c.if-khz-held.true c.ranges.khz c.ranges.nb_subfr (record { sfits = search rules })

pub returns : goal.returns
unfolding reshaped reshaped_by
returns c =
    let s = c.args.s.now in
    let k = c.args.khz in
    let sized : c.with_shape.new.s ≡ with_shape s k c.args.nb_subfr = c.with_shape.ensures ∙ λ i. with_shape s (to_z-of_z c.ranges.khz i) (to_z-of_z c.ranges.nb_subfr i) in
    ap (λ (t : SilkDecoderState). with_first (with_type (with_lag (with_memory (with_out_buf t (replicate 480 (pos 0))) (replicate 16 (pos 0))) (pos 100)) (pos 0)) (pos 1)) sized
    ∙ ap (λ (x : Bool). reshaped_by x k c.args.nb_subfr s) (sym (eq_ℤ_ne k s.fs_khz (λ z. c.if-khz-held.false (ap (of_z w32) z))))
