use Rattle.std.proofs.Common.{rules, ap, ◌∙◌}
use lib.IntN.{ℤ}
use mir.Facts.{to_z-of_z}
use Rattle.listener.specs.Heard.{counts_of}
use Rattle.listener.proofs.fn.sixteen.map+FnOnce.call_once.Goals as goal

pub returns : goal.returns
returns c =
    let a = c.args in
    (c.map.new.arg1, (search rules, c.map.ensures ∙ ap (λ (z : ℤ). counts_of a.arg1.0.now a.arg1.1.now z a.arg1.2.now) (to_z-of_z c.ranges.arg2)))
