use mathlib.Core.Path.{◌∙◌}
use mir.Syntax.{w8}
use Rattle.decoder.specs.Signals.{signal_of}
use Rattle.word.proofs.Words.{kept}
use Rattle.record.specs.Record.{params_in}
use Rattle.record.proofs.Record.params.Goals as goal

pub returns : goal.returns
unfolding params_in
returns c =
    let e = kept w8 c.at.result c.at.type_inv ∙ c.at.ensures in
    let f = c.from-signal.ensures ∙ λ i. signal_of (e i) in
    let g = kept w8 c.at-2.result c.at-2.type_inv ∙ c.at-2.ensures in
    let h = kept w8 c.at-3.result c.at-3.type_inv ∙ c.at-3.ensures in
    let k = kept w8 c.at-4.result c.at-4.type_inv ∙ c.at-4.ensures in
    λ i. record { signal = f i; quant_offset_type = g i; nlsf_interp_coef_q2 = h i; seed = k i }
