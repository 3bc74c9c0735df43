use mathlib.Core.Path.{◌∙◌, ap}
use lib.IntN.{pos}
use mir.Syntax.{w32}
use mir.Facts.{to_z-of_z}
use Rattle.word.proofs.Words.{got}
use Rattle.refusal.specs.Refusals.{code_of}
use Rattle.post_filters.specs.Calls.{filter_call}
use Rattle.post_filters.proofs.post_filter.Goals as goal

pub returns : goal.returns
unfolding filter_call
returns c =
    let a = c.args in
    let ed = to_z-of_z c.ranges.edition in
    let e = got w32 c.code.type_inv c.code.ensures ∙ ap (λ r. pos (code_of r)) c.silk_nlsf2a_under.ensures.0 in
    (λ i. record { answer = e i; slice = c.silk_nlsf2a_under.ensures.1 i })
    ∙ ap (filter_call a.coefficients.now a.lines.now a.order) ed
